use Rattle.std.proofs.Common.{◌≡◌, ◌++◌, length, refl, ap, ◌∙◌, append_assoc}
use Rattle.messages.specs.Writing.{encoded, head_octets, complete_octets, bearer_octets, cause_octets, channel_octets, progress_octets, digits_octets}
use Rattle.writer.specs.Values.{values, values_of}
use Rattle.writer.proofs.Lent.{lent, longer, within}
use Rattle.writer.proofs.message.put_message.Goals as goal

pub put_channel-at-requires-clause-range : goal.put_channel-at-requires-clause-range
put_channel-at-requires-clause-range c = (within (values c.args.message) c.requires.in_range).channel

pub put_progress-at-requires-clause-range : goal.put_progress-at-requires-clause-range
put_progress-at-requires-clause-range c = (within (values c.args.message) c.requires.in_range).progress

pub put_digits-at-requires-clause-range : goal.put_digits-at-requires-clause-range
put_digits-at-requires-clause-range c = (within (values c.args.message) c.requires.in_range).digits

pub returns : goal.returns
returns c =
    let original = c.args.buffer.now in
    let message = c.args.message in
    let elements = message.elements in
    let head = head_octets message.reference message.kind in
    let complete = complete_octets elements.complete in
    let bearer = bearer_octets message.kind in
    let cause = cause_octets elements.cause in
    let channel = channel_octets elements.channel in
    let progress = progress_octets elements.progress in
    let digits = digits_octets (values_of elements.digits) in
    let one = c.put_complete-at.ensures in
    let two = c.put_bearer-at.ensures in
    let three = c.put_cause-at.ensures in
    let four = c.put_channel-at.ensures in
    let five = c.put_progress-at.ensures in
    let six = c.put_digits-at.ensures in
    let at1 = longer head complete 5 _ refl one.size in
    let at2 = longer (head ++ complete) bearer _ _ at1 two.size in
    let at3 = longer ((head ++ complete) ++ bearer) cause _ _ at2 three.size in
    let at4 = longer (((head ++ complete) ++ bearer) ++ cause) channel _ _ at3 four.size in
    let at5 = longer ((((head ++ complete) ++ bearer) ++ cause) ++ channel) progress _ _ at4 five.size in
    let at6 = longer (((((head ++ complete) ++ bearer) ++ cause) ++ channel) ++ progress) digits _ _ at5 six.size in
    let b1 = lent original head complete _ _ 5 _ refl c.put_header.ensures.after one.after in
    let b2 = lent original (head ++ complete) bearer _ _ _ _ at1 b1 two.after in
    let b3 = lent original ((head ++ complete) ++ bearer) cause _ _ _ _ at2 b2 three.after in
    let b4 = lent original (((head ++ complete) ++ bearer) ++ cause) channel _ _ _ _ at3 b3 four.after in
    let b5 = lent original ((((head ++ complete) ++ bearer) ++ cause) ++ channel) progress _ _ _ _ at4 b4 five.after in
    let b6 = lent original (((((head ++ complete) ++ bearer) ++ cause) ++ channel) ++ progress) digits _ _ _ _ at5 b5 six.after in
    let regrouped : (((((head ++ complete) ++ bearer) ++ cause) ++ channel) ++ progress) ++ digits ≡ encoded (values message) = simp append_assoc in
    record { after = b6 ∙ simp append_assoc; size = at6 ∙ ap length regrouped }
