use Rattle.std.proofs.Common.{rules, ◌≡◌, [], None, Some, vec_items, sym, ap, ◌∙◌, append-nil}
use Rattle.hexadecimal.specs.Text.{octets_from, octets_in}
use Rattle.hexadecimal.proofs.Turns.{behind, left, came, turn, whole, second}
use Rattle.hexadecimal.proofs.octets_in.Goals.{in_default-next-via-in-Some+in_default, in_default-next-via-in_default}
use Rattle.hexadecimal.proofs.octets_in.Goals as goal

pub loop-high-init : goal.loop-high-init
loop-high-init c =
    let rest : left c.map-digits.result ≡ c.args.text.now = cc in
    ap (λ front. behind front (octets_from None (left c.map-digits.result))) c.new-octets.ensures.items ∙ whole (octets_from None (left c.map-digits.result)) ∙ ap octets_in rest

pub returns-in_default-high : goal.returns-in_default-high
returns-in_default-high c =
    let turned = turn (λ f x b q k. search rules) (λ f x d q k. search rules) None c.loop-high.digits c.next.new.self c.next.result c.next.ensures.steps in
    let wrong : octets_from None (left c.loop-high.digits) ≡ None = turned ∙ ap (λ r. came None r (left c.next.new.self)) (c.in-Some.is ∙ ap Some c.in_default-high.is) in
    record { two_digits_an_octet = ap (behind (vec_items c.loop-high.octets)) (sym wrong) ∙ c.loop-high.invariant }

pub returns-in_default-next : goal.returns-in_default-next
returns-in_default-next c =
    let first = turn (λ f x b q k. search rules) (λ f x d q k. search rules) None c.loop-high.digits c.next.new.self c.next.result c.next.ensures.steps in
    let next = turn (λ f x b q k. search rules) (λ f x d q k. search rules) (Some c.in-Some-high.high) c.next.new.self c.next-in-Some.new.self c.next-in-Some.result c.next-in-Some.ensures.steps in
    let half : octets_from None (left c.loop-high.digits) ≡ came (Some c.in-Some-high.high) c.next-in-Some.result (left c.next-in-Some.new.self) =
    first ∙ ap (λ r. came None r (left c.next.new.self)) (c.in-Some.is ∙ ap Some c.in-Some-high.is) ∙ next in
    let wrong : came (Some c.in-Some-high.high) c.next-in-Some.result (left c.next-in-Some.new.self) ≡ None =
    elim c.in_default-next.branch [
      | in_default-next-via-in-Some+in_default w ↦ let none : w.in_default-next.field-0 ≡ None = search rules in ap (λ r. came (Some c.in-Some-high.high) r (left c.next-in-Some.new.self)) (w.in_default-next.is ∙ ap Some none)
      | in_default-next-via-in_default w ↦ ap (λ r. came (Some c.in-Some-high.high) r (left c.next-in-Some.new.self)) w.in_default-next.is
    ] in
    record { two_digits_an_octet = ap (behind (vec_items c.loop-high.octets)) (sym (half ∙ wrong)) ∙ c.loop-high.invariant }

pub loop-high-preserved : goal.loop-high-preserved
loop-high-preserved c =
    let first = turn (λ f x b q k. search rules) (λ f x d q k. search rules) None c.loop-high.digits c.next.new.self c.next.result c.next.ensures.steps in
    let next = turn (λ f x b q k. search rules) (λ f x d q k. search rules) (Some c.in-Some-high.high) c.next.new.self c.next-in-Some.new.self c.next-in-Some.result c.next-in-Some.ensures.steps in
    let both : octets_from None (left c.loop-high.digits) ≡ came (Some c.in-Some-high.high) (Some (Some c.in-Some-Some.low)) (left c.next-in-Some.new.self) =
    first ∙ ap (λ r. came None r (left c.next.new.self)) (c.in-Some.is ∙ ap Some c.in-Some-high.is) ∙ next ∙ ap (λ r. came (Some c.in-Some-high.high) r (left c.next-in-Some.new.self)) (c.in-Some-Some.is ∙ ap Some c.in-Some-Some.field-0-is) in
    ap (λ items. behind items (octets_from None (left c.next-in-Some.new.self))) c.in_ok-push.ensures.items
    ∙ second (vec_items c.loop-high.octets) c.in-Some-high.high c.in-Some-Some.low (left c.next-in-Some.new.self)
    ∙ ap (behind (vec_items c.loop-high.octets)) (sym both)
    ∙ c.loop-high.invariant

pub returns : goal.returns
returns c =
    let turned = turn (λ f x b q k. search rules) (λ f x d q k. search rules) None c.loop-high.digits c.next.new.self c.next.result c.next.ensures.steps in
    let over : octets_from None (left c.loop-high.digits) ≡ Some [] = turned ∙ ap (λ r. came None r (left c.next.new.self)) c.in_default.is in
    record { two_digits_an_octet = ap Some (sym (append-nil (vec_items c.loop-high.octets))) ∙ ap (behind (vec_items c.loop-high.octets)) (sym over) ∙ c.loop-high.invariant }
