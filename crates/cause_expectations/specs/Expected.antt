-- What the list says of a number: the first entry that covers it counts.
use Rattle.std.specs.Prelude.{ℕ, Bool, false, if◌then◌else◌, ◌&&◌, List, [], ◌∷◌, Some, None, Option, ◌==◌}
use Rattle.cause_expectations.specs.declared.entry.CauseEntry.{CauseEntry}
use Rattle.cause_expectations.specs.declared.entry.StatusEntry.{StatusEntry}
use Rattle.cause_expectations.specs.Covering.{cause_covers, status_covers}

abbrev pub first_covering : {E A : Type 0} → (E → Bool) → (E → A) → List E → Option A
first_covering covers answer [] = None
first_covering covers answer (e ∷ rest) = if covers e then Some (answer e) else first_covering covers answer rest

abbrev pub expected_status : List CauseEntry → ℕ → ℕ → Option ℕ
expected_status entries cause location = first_covering (λ e. cause_covers e cause location) (λ e. e.status) entries

abbrev pub expected_cause : List StatusEntry → ℕ → Option (ℕ × ℕ)
expected_cause entries status = first_covering (λ e. status_covers e status) (λ e. (e.cause.value, e.cause.location)) entries

-- a number that the list does not know agrees with no answer
abbrev pub same_status : Option ℕ → ℕ → Bool
same_status None answered = false
same_status (Some status) answered = status == answered

abbrev pub same_cause : Option (ℕ × ℕ) → ℕ × ℕ → Bool
same_cause None answered = false
same_cause (Some expected) answered = expected.0 == answered.0 && expected.1 == answered.1
