use Rattle.std.proofs.Common.{◌≡◌, ◌+◌, ◌∷◌, length, set, ap, ◌∙◌, arith, length-set, rules}
use Rattle.std.proofs.lemmas.List.Edits.{paste_more}
use Rattle.std.proofs.lemmas.Bool.Decides.{nat_tests}
use Rattle.writer.specs.Element.{placed}
use Rattle.writer.proofs.Over.{closed}
use Rattle.writer.proofs.element.write_element.Goals as goal
use Rattle.writer.proofs.element.write_element.Goals.{In_ok-push}

-- the octets when the first content is put
begun : (c : In_ok-push) → c.push.new.self.bytes.now ≡ set (set c.args.bytes.now 0 c.args.id) 2 c.args.first
begun c = c.in_ok-push.ensures.bytes

pub returns-in_err-push-2-clause-length_octet_counts_what_was_put :
    goal.returns-in_err-push-2-clause-length_octet_counts_what_was_put
returns-in_err-push-2-clause-length_octet_counts_what_was_put c =
    let i = c.loop-octet.invariant in
    let b = begun (goal.at.returns-in_err-push-2-clause-length_octet_counts_what_was_put c).In_ok-push in
    let l = simp length-set at (ap length b) in
    let t = c.loop-octet-test.true in
    let told = c.in_err-push-2.ensures in
    let room = told.value in
    let p : c.loop-octet.element.put ≡ placed c.args.bytes.now (c.args.first ∷ c.args.rest.now) = grind (arith, nat_tests) in
    closed c.args.bytes.now c.args.rest.now c.args.id c.args.first c.loop-octet.octet-index c.push-in-loop-octet.new.self.put (omega arith) (told.put ∙ i.0) (told.put ∙ p) (told.bytes ∙ simp b at i.4) (search rules)

pub loop-octet-preserved : goal.loop-octet-preserved
loop-octet-preserved c =
    let i = c.loop-octet.invariant in
    let told = c.in_ok-push-2.ensures in
    let room = told.value in
    let bytes = told.bytes in
    let put = told.put in
    let t = c.loop-octet-test.true in
    let at : 2 + c.loop-octet.element.put ≡ 3 + c.loop-octet.octet-index = omega arith in
    let more = paste_more c.push.new.self.bytes.now 3 c.args.rest.now c.loop-octet.octet-index 0 (grind (arith, nat_tests)) (omega arith) in
    (omega arith, grind (arith, nat_tests), grind (arith, nat_tests), simp (bytes, length-set) i.3, cc, told.lender ∙ i.5)

pub returns-clause-length_octet_counts_what_was_put : goal.returns-clause-length_octet_counts_what_was_put
returns-clause-length_octet_counts_what_was_put c =
    let i = c.loop-octet.invariant in
    let b = begun (goal.at.returns-clause-length_octet_counts_what_was_put c).In_ok-push in
    let l = simp length-set at (ap length b) in
    let p : c.loop-octet.element.put ≡ placed c.args.bytes.now (c.args.first ∷ c.args.rest.now) = omega arith in
    closed c.args.bytes.now c.args.rest.now c.args.id c.args.first c.loop-octet.octet-index c.loop-octet.element.put (omega arith) i.0 p (simp b at i.4) (search rules)
