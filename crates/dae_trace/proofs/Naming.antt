-- What a line names: one pick at most, and each such text ends with its only line feed.
use Rattle.std.proofs.Common.{◌≡◌, ◌≢◌, ℕ, nat_eq, false, ◌<◌, ◌^◌, List, ◌++◌, length, drop, get_or, refl, ap, sym, ◌∙◌, subst, length-append, arith}
use Rattle.std.specs.Prelude.{codes, decimal}
use Rattle.std.proofs.lemmas.Bool.Decides.{nat_tests}
use Rattle.std.proofs.lemmas.Fmt.{decimal_injective}
use Rattle.dae_base.specs.declared.Side.{Side}
use Rattle.dae_base.specs.declared.Side.TheVariants.{A, E}
use Rattle.dae_base.specs.declared.Width.{Width}
use Rattle.dae_base.specs.declared.Width.TheVariants.{B1, B2, B4}
use Rattle.dae_base.specs.Words.{size}
use Rattle.dae_machine.specs.declared.Pick.{Pick}
use Rattle.dae_machine.specs.declared.Pick.TheVariants.{A as MoveA, E as MoveE, Fill, Drain}
use Rattle.dae_trace.specs.Lines.{Names, drain_line, fill_line, side_text, step_line, word_text}
use Rattle.dae_trace.specs.Parts.{IsFilling}
use Rattle.dae_trace.proofs.Texts.{IsWhole, NoFeed, decimal_no_feed, feed_alone, fronts_same, whole_more, word_length, word_no_feed}

-- ---- one pick at most

apart : (x y : ℕ) → nat_eq x y ≡ false → x ≢ y
apart x y h e = grind (arith, nat_tests)

-- the letter at the head of a pick's lines
letter : Pick → ℕ
letter MoveA = 65
letter MoveE = 69
letter (Fill side number) = 70
letter Drain = 68

begins_with : (text : List ℕ) (p : Pick) → Names text p → get_or text 0 0 ≡ letter p
unfolding letter
begins_with text MoveA h = ap (λ (l : List ℕ). get_or l 0 0) h.1
begins_with text MoveE h = ap (λ (l : List ℕ). get_or l 0 0) h.1
begins_with text (Fill side number) h = ap (λ (l : List ℕ). get_or l 0 0) h.2
begins_with text Drain h = ap (λ (l : List ℕ). get_or l 0 0) h.3

-- what stands behind a slot's number has one length
pub ending_length : (v : ℕ) → length (codes " " ++ (word_text v ++ codes "\n")) ≡ 10
ending_length v =
    let l = length-append (word_text v) (codes "\n") in
    let w = word_length v in
    omega arith

one_number : (m n v w : ℕ) → m < 2 ^ 40 → n < 2 ^ 40
    → decimal m ++ (codes " " ++ (word_text v ++ codes "\n")) ≡ decimal n ++ (codes " " ++ (word_text w ++ codes "\n")) → m ≡ n
one_number m n v w small little e =
    let digits = fronts_same (decimal m) _ (decimal n) _ (ending_length v ∙ sym (ending_length w)) e in
    decimal_injective m n (omega arith) (omega arith) digits

one_fill : (side : Side) (m n v w : ℕ) → m < 2 ^ 40 → n < 2 ^ 40 → fill_line side m v ≡ fill_line side n w → m ≡ n
one_fill A m n v w small little e = one_number m n v w small little (ap (drop 4) e)
one_fill E m n v w small little e = one_number m n v w small little (ap (drop 4) e)

one_side : (m n v w : ℕ) → fill_line A m v ≢ fill_line E n w
one_side m n v w e = apart 65 69 refl (ap (λ (l : List ℕ). get_or l 2 0) e)

pub names_one : (text : List ℕ) (p q : Pick) → Names text p → Names text q → p ≡ q
unfolding letter
names_one text MoveA MoveA h k = refl
names_one text MoveE MoveE h k = refl
names_one text Drain Drain h k = refl
names_one text (Fill A m) (Fill A n) h k = ap (Fill A) (one_fill A m n h.0 k.0 h.1 k.1 (sym h.2 ∙ k.2))
names_one text (Fill E m) (Fill E n) h k = ap (Fill E) (one_fill E m n h.0 k.0 h.1 k.1 (sym h.2 ∙ k.2))
names_one text (Fill A m) (Fill E n) h k = absurd (one_side m n h.0 k.0 (sym h.2 ∙ k.2))
names_one text (Fill E m) (Fill A n) h k = absurd (one_side n m k.0 h.0 (sym k.2 ∙ h.2))
names_one text MoveA MoveE h k = absurd (apart 65 69 refl (sym (begins_with text MoveA h) ∙ begins_with text MoveE k))
names_one text MoveA (Fill side n) h k = absurd (apart 65 70 refl (sym (begins_with text MoveA h) ∙ begins_with text (Fill side n) k))
names_one text MoveA Drain h k = absurd (apart 65 68 refl (sym (begins_with text MoveA h) ∙ begins_with text Drain k))
names_one text MoveE MoveA h k = absurd (apart 69 65 refl (sym (begins_with text MoveE h) ∙ begins_with text MoveA k))
names_one text MoveE (Fill side n) h k = absurd (apart 69 70 refl (sym (begins_with text MoveE h) ∙ begins_with text (Fill side n) k))
names_one text MoveE Drain h k = absurd (apart 69 68 refl (sym (begins_with text MoveE h) ∙ begins_with text Drain k))
names_one text (Fill side m) MoveA h k = absurd (apart 70 65 refl (sym (begins_with text (Fill side m) h) ∙ begins_with text MoveA k))
names_one text (Fill side m) MoveE h k = absurd (apart 70 69 refl (sym (begins_with text (Fill side m) h) ∙ begins_with text MoveE k))
names_one text (Fill side m) Drain h k = absurd (apart 70 68 refl (sym (begins_with text (Fill side m) h) ∙ begins_with text Drain k))
names_one text Drain MoveA h k = absurd (apart 68 65 refl (sym (begins_with text Drain h) ∙ begins_with text MoveA k))
names_one text Drain MoveE h k = absurd (apart 68 69 refl (sym (begins_with text Drain h) ∙ begins_with text MoveE k))
names_one text Drain (Fill side n) h k = absurd (apart 68 70 refl (sym (begins_with text Drain h) ∙ begins_with text (Fill side n) k))

-- ---- one line feed

other : (b : ℕ) → 10 < b → b ≢ 10
other b h e = omega arith

side_no_feed : (side : Side) → NoFeed (side_text side)
side_no_feed A = (other 65 (omega arith), tt)
side_no_feed E = (other 69 (omega arith), tt)

blank_no_feed : NoFeed (codes " ")
blank_no_feed = (other 32 (omega arith), tt)

word_whole : (w : ℕ) → IsWhole (codes " " ++ (word_text w ++ codes "\n"))
word_whole w = whole_more (codes " ") _ blank_no_feed (whole_more (word_text w) _ (word_no_feed w) feed_alone)

step_whole : (side : Side) (counter : ℕ) → IsWhole (step_line side counter)
step_whole side counter = whole_more (side_text side) _ (side_no_feed side) (word_whole counter)

fill_whole : (side : Side) (number value : ℕ) → number < 2 ^ 40 → IsWhole (fill_line side number value)
fill_whole side number value small =
    whole_more (codes "F ") _ (other 70 (omega arith), blank_no_feed)
    (whole_more (side_text side) _ (side_no_feed side)
    (whole_more (codes " ") _ blank_no_feed
    (whole_more (decimal number) _ (decimal_no_feed number (omega arith)) (word_whole value))))

size_small : (width : Width) → size width < 2 ^ 64
size_small B1 = omega arith
size_small B2 = omega arith
size_small B4 = omega arith

drain_whole : (addr : ℕ) (width : Width) (datum : ℕ) → IsWhole (drain_line addr width datum)
drain_whole addr width datum =
    whole_more (codes "D ") _ (other 68 (omega arith), blank_no_feed)
    (whole_more (word_text addr) _ (word_no_feed addr)
    (whole_more (codes " ") _ blank_no_feed
    (whole_more (decimal (size width)) _ (decimal_no_feed (size width) (size_small width)) (word_whole datum))))

pub names_whole : (text : List ℕ) (p : Pick) → Names text p → IsWhole text
names_whole text MoveA h = subst IsWhole (sym h.1) (step_whole A h.0)
names_whole text MoveE h = subst IsWhole (sym h.1) (step_whole E h.0)
names_whole text (Fill side number) h = subst IsWhole (sym h.2) (fill_whole side number h.0 h.1)
names_whole text Drain h = subst IsWhole (sym h.3) (drain_whole h.0 h.1 h.2)

-- ---- texts that name no pick

-- behind the letter and the side of a fill stand no number and word
pub no_fill : (bytes rest : List ℕ) (side : Side) → bytes ≡ codes "F " ++ (side_text side ++ (codes " " ++ rest))
    → ((n : ℕ) → ¬ (IsFilling rest n)) → (p : Pick) → ¬ (Names bytes p)
unfolding letter
no_fill bytes rest A is none (Fill A n) h = none n (h.0, h.1, ap (drop 4) (sym is ∙ h.2))
no_fill bytes rest E is none (Fill E n) h = none n (h.0, h.1, ap (drop 4) (sym is ∙ h.2))
no_fill bytes rest A is none (Fill E n) h = apart 65 69 refl (ap (λ (l : List ℕ). get_or l 2 0) (sym is ∙ h.2))
no_fill bytes rest E is none (Fill A n) h = apart 69 65 refl (ap (λ (l : List ℕ). get_or l 2 0) (sym is ∙ h.2))
no_fill bytes rest side is none MoveA h = apart 70 65 refl (sym (ap (λ (l : List ℕ). get_or l 0 0) is) ∙ begins_with bytes MoveA h)
no_fill bytes rest side is none MoveE h = apart 70 69 refl (sym (ap (λ (l : List ℕ). get_or l 0 0) is) ∙ begins_with bytes MoveE h)
no_fill bytes rest side is none Drain h = apart 70 68 refl (sym (ap (λ (l : List ℕ). get_or l 0 0) is) ∙ begins_with bytes Drain h)
