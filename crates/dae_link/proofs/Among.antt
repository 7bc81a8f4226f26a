-- Each mark is of a word at which an action begins.
use Rattle.std.proofs.Common.{◌≡◌, inl, inr, ℕ, zero, suc, ◌-◌, Bool, true, false, List, [], ◌∷◌, ◌++◌, length, take, refl, subst, sym}
use Rattle.std.specs.Prelude.{Option, Some, None, if◌then◌else◌}
use Rattle.std.specs.List.{AllByRecursion, last_or}
use Rattle.dae_base.specs.declared.Side.{Side}
use Rattle.dae_base.specs.declared.Side.TheVariants.{A, E}
use Rattle.dae_image.specs.declared.LineMark.{LineMark}
use Rattle.dae_image.specs.declared.Image.{Image}
use Rattle.dae_ir.specs.declared.stream.Pair.{Pair}
use Rattle.dae_select.specs.declared.growing.PlacedWord.{PlacedWord}
use Rattle.dae_link.specs.Sides.{HasPlaces}
use Rattle.dae_link.specs.declared.marks.MarkRoom.{MarkRoom}
use Rattle.dae_link.specs.Linked.{HasMarks, room_of}
use Rattle.dae_link.specs.Marked.{IsMarkFrom, IsMarkOf, mark_at, is_marked, marks_after, marks_a, line_marks}

later : (side : Side) (p : PlacedWord) (ps : List PlacedWord) (ms : List LineMark) → AllByRecursion (IsMarkFrom side ps) ms → AllByRecursion (IsMarkFrom side (p ∷ ps)) ms
later side p ps [] h = tt
later side p ps (m ∷ ms) h = ((suc h.0.0, h.0.1, h.0.2, h.0.3), later side p ps ms h.1)

chosen_among : (side : Side) (p : PlacedWord) (ps : List PlacedWord) (marked other : List LineMark) (b : Bool) → AllByRecursion (IsMarkFrom side ps) marked → AllByRecursion (IsMarkFrom side ps) other
    → AllByRecursion (IsMarkFrom side (p ∷ ps)) (if b then mark_at side p ∷ marked else other)
chosen_among side p ps marked other true h k = ((0, p, refl, refl), later side p ps marked h)
chosen_among side p ps marked other false h k = later side p ps other k

after_among : (room : MarkRoom) (side : Side) (last : Option LineMark) (ps : List PlacedWord) → AllByRecursion (IsMarkFrom side ps) (marks_after room side last ps)
after_among room side last [] = tt
after_among room side last (p ∷ ps) =
    chosen_among side p ps (marks_after room side (Some (mark_at side p)) ps) (marks_after room side last ps) (is_marked room last (mark_at side p))
    (after_among room side (Some (mark_at side p)) ps) (after_among room side last ps)

first_some : {X : Type 0} (P : X → Type 0) (n : ℕ) (xs : List X) → AllByRecursion P xs → AllByRecursion P (take n xs)
first_some P zero xs h = tt
first_some P (suc n) [] h = tt
first_some P (suc n) (x ∷ xs) h = (h.0, first_some P n xs h.1)

both : {X : Type 0} (P Q R : X → Type 0) → ((x : X) → P x → R x) → ((x : X) → Q x → R x) → (xs ys : List X) → AllByRecursion P xs → AllByRecursion Q ys → AllByRecursion R (xs ++ ys)
both P Q R f g [] [] h k = tt
both P Q R f g [] (y ∷ ys) h k = (g y k.0, both P Q R f g [] ys tt k.1)
both P Q R f g (x ∷ xs) ys h k = (f x h.0, both P Q R f g xs ys h.1 k)

-- of the marks of both sides
pub all_among : (room : MarkRoom) (a e : List PlacedWord) (lines : List LineMark) → lines ≡ line_marks room a e → AllByRecursion (IsMarkOf a e) lines
all_among room a e lines made =
    let of_a = marks_a room a in let left = 262144 - length of_a in
    let more = marks_after room E (last_or None of_a) e in
    let one = first_some (IsMarkFrom A a) 131072 (marks_after room A None a) (after_among room A None a) in
    let other = first_some (IsMarkFrom E e) left more (after_among room E (last_or None of_a) e) in
    subst (λ (ms : List LineMark). AllByRecursion (IsMarkOf a e) ms) (sym made)
    (both (IsMarkFrom A a) (IsMarkFrom E e) (IsMarkOf a e) (λ m h. inl h) (λ m h. inr h) of_a (take left more) one other)

-- and the marks of an image are those of the words at which the actions of its streams begin
pub has_marks : (pair : Pair) (image : Image) (a e : List PlacedWord) → HasPlaces pair.a image.code_a a → HasPlaces pair.e image.code_e e
    → image.lines ≡ line_marks (room_of image) a e → HasMarks pair image
has_marks pair image a e of_a of_e made = record {
  places_a = a;
  places_e = e;
  a = of_a;
  e = of_e;
  each = all_among (room_of image) a e image.lines made;
  lines = made;
}
