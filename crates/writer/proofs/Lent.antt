-- A part of the buffer that is lent onward, and what comes of the whole.
use Rattle.std.proofs.Common.{◌≡◌, ℕ, ◌+◌, ◌-◌, true, List, [], ◌++◌, length, take, drop, sym, arith, length-append}
use borrow.Rule.Slice.PartMut.{put_mid}
use Rattle.std.proofs.lemmas.List.{take_at, drop_at, drop_all, drop-drop, take_rest, length-drop, append-nil, append_assoc}
use Rattle.std.proofs.lemmas.Bool.{and_parts}
use Rattle.messages.specs.declared.record.Message.{Message}
use Rattle.messages.specs.Writing.{channel_fits, progress_fits, digits_fit, is_writable}

-- the buffer begins with what was written and is then as it was; an element is written to the part right behind
pub lent : (original front element buffer part : List ℕ) (at n : ℕ) → at ≡ length front → buffer ≡ front ++ drop at original → part ≡ element ++ drop n (take (length buffer - at) (drop at buffer)) → put_mid at (length buffer - at) buffer part ≡ (front ++ element) ++ drop (at + n) original
lent original front element buffer part at n l e p =
    let t : take at buffer ≡ front = rw e (take_at front (drop at original) at (sym l)) in
    let d : drop at buffer ≡ drop at original = rw e (drop_at front (drop at original) at (sym l)) in
    let z : drop (length buffer - at) (drop at buffer) ≡ [] = drop_all (length buffer - at) (drop at buffer) (simp length-drop (omega arith)) in
    let w : take (length buffer - at) (drop at buffer) ≡ drop at buffer = take_rest buffer at in
    simp (t, z, p, w) (simp (d, drop-drop, append-nil, append_assoc))

-- one element more is written
pub longer : (front element : List ℕ) (at n : ℕ) → at ≡ length front → n ≡ length element → at + n ≡ length (front ++ element)
longer front element at n l m = simp length-append (omega arith)

-- the last three elements of a message that is writable
pub record Within (m : Message (List ℕ)) : Type 0 where
  pub channel : channel_fits m.elements.channel ≡ true
  pub progress : progress_fits m.elements.progress ≡ true
  pub digits : digits_fit m.elements.digits ≡ true

pub within : (m : Message (List ℕ)) → is_writable m ≡ true → Within m
within m f =
    let last = and_parts _ _ (and_parts _ _ (and_parts _ _ f).1).1 in
    let ends = and_parts _ _ last.1 in
    record { channel = last.0; progress = ends.0; digits = ends.1 }
