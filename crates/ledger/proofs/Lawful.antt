-- The laws make the books balance.
use Rattle.std.proofs.Common.{◌≡◌, ℕ, ◌+◌, ◌<◌, ◌≤◌, true, ◌==◌, if◌then◌else◌, List, [], ◌∷◌, ◌++◌, Ok, Err, length, append-nil, sym, refl, ap, ◌∙◌, arith}
use Rattle.std.proofs.lemmas.Grind.{common_steps}
use Rattle.messages.specs.declared.record.Message.{Message}
use Rattle.messages.specs.Types.{code_of}
use Rattle.calls.specs.declared.answers.Answer.{Answer}
use Rattle.calls.specs.declared.record.Digits.{Digits}
use Rattle.calls.specs.Sides.{one_if, connects_in, finals_in}
use Rattle.calls.specs.Run.{Happening}
use Rattle.calls.specs.Laws.{Brought, ASetup, AnInvite, AnOk, ABye, NoneOfThese, brought_by, setup_count, on_report, connects_sent, setups_taken, finals_sent, exchange_sent, exchange_gone, sip_sent, sip_gone}
use Rattle.calls.proofs.Runs.{run_laws}
use Rattle.ledger.specs.Counts.{setups, all_connects}
use Rattle.ledger.specs.Histories.{all_setups}
use Rattle.ledger.specs.Lawful.{LawfulBooks, RunBooks}
use Rattle.ledger.proofs.Histories.{finals_append, connects_append}

-- ---------------------------------------------------------------- a list that has no number oftener is no longer
abbrev times : ℕ → List ℕ → ℕ
times k [] = 0
times k (x ∷ xs) = one_if (x == k) + times k xs

abbrev without : ℕ → List ℕ → List ℕ
without k [] = []
without k (x ∷ xs) = if x == k then xs else x ∷ without k xs

times_without : (k r : ℕ) (xs : List ℕ) → 0 < times k xs → times r (without k xs) + one_if (k == r) ≡ times r xs
times_without k r [] h = absurd (omega (arith, h))
times_without k r (x ∷ xs) h = grind (arith, common_steps, times_without k r xs)

length_without : (k : ℕ) (xs : List ℕ) → 0 < times k xs → length (without k xs) + 1 ≡ length xs
length_without k [] h = absurd (omega (arith, h))
length_without k (x ∷ xs) h = grind (arith, common_steps, length_without k xs)

one_of_itself : (k : ℕ) → one_if (k == k) ≡ 1
one_of_itself k = grind (arith, common_steps)

no_longer : (xs ys : List ℕ) → ((r : ℕ) → times r xs ≤ times r ys) → length xs ≤ length ys
no_longer [] ys h = omega arith
no_longer (x ∷ xs) ys h =
    let some : 0 < times x ys = omega (arith, h x, one_of_itself x) in
    omega (arith, no_longer xs (without x ys) (λ r. omega (arith, h r, times_without x r ys some)), length_without x ys some)

-- ---------------------------------------------------------------- the references of CONNECTs and SETUPs
abbrev connect_references : List (Message Digits) → List ℕ
connect_references [] = []
connect_references (m ∷ ms) = if code_of m.kind == 0x07 then m.reference.number ∷ connect_references ms else connect_references ms

abbrev setup_references : Brought → List ℕ
setup_references (ASetup r) = r ∷ []
setup_references _ = []

abbrev on_step : List ℕ → Answer → List ℕ
on_step rs (Answer.Step (Ok r)) = rs
on_step rs _ = []

abbrev sent_references : List Happening → List ℕ
sent_references [] = []
sent_references (h ∷ past) = connect_references h.exchange ++ sent_references past

abbrev taken_references : List Happening → List ℕ
taken_references [] = []
taken_references (h ∷ past) = on_step (setup_references (brought_by h.event)) h.answer ++ taken_references past

times_append : (k : ℕ) (xs ys : List ℕ) → times k (xs ++ ys) ≡ times k xs + times k ys
times_append k [] ys = omega arith
times_append k (x ∷ xs) ys = omega (arith, times_append k xs ys)

long_append : (xs ys : List ℕ) → length (xs ++ ys) ≡ length xs + length ys
long_append [] ys = omega arith
long_append (x ∷ xs) ys = omega (arith, long_append xs ys)

connects_times : (r : ℕ) (ms : List (Message Digits)) → times r (connect_references ms) ≡ connects_in r ms
connects_times r [] = refl
connects_times r (m ∷ ms) = grind (arith, common_steps, connects_times r ms)

connects_length : (ms : List (Message Digits)) → length (connect_references ms) ≡ all_connects ms
connects_length [] = refl
connects_length (m ∷ ms) = grind (arith, common_steps, connects_length ms)

setup_times : (r : ℕ) (b : Brought) → times r (setup_references b) ≡ setup_count r b
setup_times r (ASetup x) = omega arith
setup_times r (AnInvite t d) = refl
setup_times r (AnOk d) = refl
setup_times r (ABye d) = refl
setup_times r NoneOfThese = refl

setup_length : (b : Brought) → length (setup_references b) ≡ setups b
setup_length (ASetup x) = refl
setup_length (AnInvite t d) = refl
setup_length (AnOk d) = refl
setup_length (ABye d) = refl
setup_length NoneOfThese = refl

step_times : (r : ℕ) (b : Brought) (a : Answer) → times r (on_step (setup_references b) a) ≡ on_report (λ x. setup_count r b) a
step_times r b (Answer.Step (Ok x)) = setup_times r b
step_times r b (Answer.Step (Err x)) = refl
step_times r b (Answer.Exchange m) = refl
step_times r b (Answer.Sip m) = refl

step_length : (b : Brought) (a : Answer) → length (on_step (setup_references b) a) ≡ on_report (λ x. setups b) a
step_length b (Answer.Step (Ok x)) = setup_length b
step_length b (Answer.Step (Err x)) = refl
step_length b (Answer.Exchange m) = refl
step_length b (Answer.Sip m) = refl

sent_times : (r : ℕ) (past : List Happening) → times r (sent_references past) ≡ connects_sent r past
sent_times r [] = refl
sent_times r (h ∷ past) = omega (arith, times_append r (connect_references h.exchange) (sent_references past), connects_times r h.exchange, sent_times r past)

sent_length : (past : List Happening) → length (sent_references past) ≡ all_connects (exchange_sent past)
sent_length [] = refl
sent_length (h ∷ past) =
    omega (arith, long_append (connect_references h.exchange) (sent_references past), connects_length h.exchange, sent_length past, connects_append (exchange_sent past) h.exchange)

taken_times : (r : ℕ) (past : List Happening) → times r (taken_references past) ≡ setups_taken r past
taken_times r [] = refl
taken_times r (h ∷ past) =
    omega (arith, times_append r (on_step (setup_references (brought_by h.event)) h.answer) (taken_references past), step_times r (brought_by h.event) h.answer, taken_times r past)

taken_length : (past : List Happening) → length (taken_references past) ≡ all_setups past
taken_length [] = refl
taken_length (h ∷ past) =
    omega (arith, long_append (on_step (setup_references (brought_by h.event)) h.answer) (taken_references past), step_length (brought_by h.event) h.answer, taken_length past)

connects_at_most_setups : (past : List Happening) → ((r : ℕ) → connects_sent r past ≤ setups_taken r past) → all_connects (exchange_sent past) ≤ all_setups past
connects_at_most_setups past h =
    omega (arith, sent_length past, taken_length past, no_longer (sent_references past) (taken_references past) (λ r. omega (arith, h r, sent_times r past, taken_times r past)))

finals_of_the_sent : (t : ℕ) (past : List Happening) → finals_in t (sip_sent past) ≡ finals_sent t past
finals_of_the_sent t [] = refl
finals_of_the_sent t (h ∷ past) = omega (arith, finals_append t (sip_sent past) h.sip, finals_of_the_sent t past)

-- where nothing waits, all that was sent was taken
all_taken : {M : Type 0} (gone waits sent : List M) → waits ≡ [] → gone ++ waits ≡ sent → gone ≡ sent
all_taken {M} gone waits sent none all = sym (append-nil gone) ∙ sym (ap (λ (ws : List M). gone ++ ws) none) ∙ all

are_equal : (x y : ℕ) → x ≡ y → (x == y) ≡ true
are_equal x y e = grind (arith, common_steps)

pub lawful_books : LawfulBooks
lawful_books pool past st l laws closed =
    let sip = all_taken (sip_gone past) st.sip (sip_sent past) closed.sip_is_empty laws.sip_sent_in_order in
    let exchange = all_taken (exchange_gone past) st.exchange (exchange_sent past) closed.exchange_is_empty laws.exchange_sent_in_order in
    record {
      channels = λ c idle. are_equal _ _ (omega (arith, closed.seizures c, closed.releases c, closed.held c, laws.seizures_balance c idle));
      transactions = λ t. are_equal _ _ (omega (arith, closed.invites t, closed.finals t, closed.owed t, laws.invites_balance t, finals_of_the_sent t past, ap (finals_in t) sip));
      connects = grind (arith, common_steps, closed.connects, closed.setups, ap all_connects exchange, connects_at_most_setups past laws.connects_were_asked);
      finals_are_all_sent = λ t. closed.finals t ∙ ap (finals_in t) sip ∙ finals_of_the_sent t past;
      connects_are_all_sent = closed.connects ∙ ap all_connects exchange;
    }

pub run_books : RunBooks
run_books start past st l o r closed =
    lawful_books start.pool past st l (run_laws start o past st r) closed
