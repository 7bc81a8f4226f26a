-- Homes of spans that are clear of each other are homes of variables.
use Rattle.std.proofs.Common.{◌≡◌, ℕ, zero, suc, ◌+◌, ◌<◌, ◌≤◌, inl, inr, List, [], ◌∷◌, ◌++◌, length, Option, Some, None, refl, ap, sym, ◌∙◌, subst, arith, length-set}
use Rattle.std.specs.Prelude.{Bool, true, false, ◌&&◌, if◌then◌else◌, nat_eq, nat_lt, nat_le, slice_get, slice_set}
use Rattle.std.specs.List.{AllByRecursion, AllZip, IsDistinct}
use Rattle.std.proofs.lemmas.Bool.Decides.{nat_tests}
use Rattle.std.proofs.lemmas.Option.{same_Some}
use Rattle.dae_ir.specs.Classes.{VariableSet}
use Rattle.dae_select_walks.specs.Homes.{is_home_register, IsHome, AreApart, AreHomes, home_or, home_in}
use Rattle.dae_select_walks.specs.declared.Home.{Home}
use Rattle.dae_select_walks.specs.declared.Home.TheVariants.{Register, Slot}
use Rattle.dae_regalloc.specs.declared.Span.{Span}
use Rattle.dae_regalloc.specs.declared.spans.Spans.{Spans}
use Rattle.dae_regalloc.specs.Scan.{register_at, free_at, placed, scan, AreClear, IsPaired, depth_at, NoSlot}
use Rattle.dae_regalloc.specs.Seen.{number_in, AreBelow, AreNumbered, AreHeld, AreSeen}
use Rattle.dae_regalloc.specs.Given.{IsOwnHome, numbered_home, IsRegister, IsAround, AreFew}
use Rattle.dae_regalloc.proofs.Numbering.{number_beyond}
use Rattle.dae_regalloc.proofs.Clear.{found_first}
use Rattle.dae_regalloc.proofs.Apart.{clear_apart}

-- ---- a scan gives registers of variables, or the slots of the variables' own numbers

right_register : (i : ℕ) → i < 18 → is_home_register (register_at i) ≡ true
right_register i lt = grind (arith, nat_tests)

pub scan_own : (xs : List Span) (ends : List ℕ) → length ends ≡ 18 → AllZip IsOwnHome xs (scan xs ends)
scan_own [] ends full = tt
scan_own (x ∷ xs) ends full = by (free_at ends x.first 0) refl (scan_own xs)
  where
    by : (o : Option ℕ) → free_at ends x.first 0 ≡ o → ((es : List ℕ) → length es ≡ 18 → AllZip IsOwnHome xs (scan xs es)) → AllZip IsOwnHome (x ∷ xs) (placed o x (scan xs) ends)
    by None e later = (refl, later ends full)
    by (Some i) e later =
        let f = found_first ends x.first i e in
        (right_register i (let lt = f.0 in omega arith), later (slice_set ends i (x.last + 1)) (length-set ends i (x.last + 1) ∙ full))

-- ---- a table

pub table_more : (table : List Home) (h : Home) (f : ℕ → Home) → ((v : ℕ) → v < length table → home_in table v ≡ f v) → h ≡ f (length table) → (v : ℕ) → v < length table + 1 → home_in (table ++ h ∷ []) v ≡ f v
table_more [] h f old e zero lt = e
table_more [] h f old e (suc v) lt = absurd (omega arith)
table_more (x ∷ xs) h f old e zero lt = old 0 (omega arith)
table_more (x ∷ xs) h f old e (suc v) lt = table_more xs h (λ n. f (suc n)) (λ n l. old (suc n) (omega arith)) e v (omega arith)

pub table_end : (table : List Home) (v : ℕ) → length table ≤ v → home_in table v ≡ Register 8
table_end [] v le = refl
table_end (x ∷ xs) zero le = absurd (omega arith)
table_end (x ∷ xs) (suc v) le = table_end xs v (omega arith)

pub whole_table : (table hs : List Home) (ns : List (Option ℕ)) → length ns ≤ length table → ((v : ℕ) → v < length table → home_in table v ≡ numbered_home hs (number_in ns v)) → (v : ℕ) → home_in table v ≡ numbered_home hs (number_in ns v)
whole_table table hs ns full old v = by (nat_lt v (length table)) refl
  where
    by : (b : Bool) → nat_lt v (length table) ≡ b → home_in table v ≡ numbered_home hs (number_in ns v)
    by true t = old v (grind (arith, nat_tests))
    by false t =
        let le : length table ≤ v = grind (arith, nat_tests) in
        table_end table v le ∙ ap (numbered_home hs) (number_beyond ns v (omega arith))

-- ---- what is live has a number

number_below : (ns : List (Option ℕ)) (v i : ℕ) → number_in ns v ≡ Some i → v < length ns
number_below [] v i e = absurd cc
number_below (n ∷ ns) zero i e = omega arith
number_below (n ∷ ns) (suc v) i e = let below = number_below ns v i e in omega arith

pub held_below : (seen : Spans) (places : List VariableSet) → AreHeld places seen → AllByRecursion (AreBelow (length seen.numbers)) places
held_below seen [] held = tt
held_below seen (lives ∷ rest) held = ((λ v live. let h = held.0 v live in number_below seen.numbers v h.0 h.2), held_below seen rest held.1)

-- ---- homes by variable

own_at : (xs : List Span) (hs : List Home) (i : ℕ) (x : Span) → AllZip IsOwnHome xs hs → slice_get xs i ≡ Some x → (h : Home) × (slice_get hs i ≡ Some h) × IsOwnHome x h × IsPaired x h xs hs
own_at [] hs i x own e = absurd cc
own_at (y ∷ ys) [] i x own e = absurd own
own_at (y ∷ ys) (g ∷ gs) zero x own e = let same = same_Some y x e in (g, refl, subst (λ (s : Span). IsOwnHome s g) same own.0, inl (sym same, refl))
own_at (y ∷ ys) (g ∷ gs) (suc i) x own e = let rest = own_at ys gs i x own.1 e in (rest.0, rest.1, rest.2, inr rest.3)

module _ (seen : Spans) (hs : List Home) (home : ℕ → Home) (numbered : AreNumbered seen) (clear : AreClear seen.spans.items hs) (own : AllZip IsOwnHome seen.spans.items hs) (is : (v : ℕ) → home v ≡ numbered_home hs (number_in seen.numbers v)) where
  given : (v i : ℕ) (x : Span) → number_in seen.numbers v ≡ Some i → slice_get seen.spans.items i ≡ Some x → IsOwnHome x (home v) × IsPaired x (home v) seen.spans.items hs
  given v i x name at =
      let h = own_at seen.spans.items hs i x own at in
      let same : home v ≡ h.0 = is v ∙ ap (numbered_home hs) name ∙ ap home_or h.1 in
      subst (λ (g : Home). IsOwnHome x g × IsPaired x g seen.spans.items hs) (sym same) (h.2, h.3)

  own_is_home : (variables v : ℕ) (x : Span) (h : Home) → v < variables → x.variable ≡ v → IsOwnHome x h → IsHome variables h
  own_is_home variables v x (Register r) lt var o = o
  own_is_home variables v x (Slot j) lt var o = omega arith

  each_home : (variables v : ℕ) → v < variables → IsHome variables (home v)
  each_home variables v lt = by (number_in seen.numbers v) refl
    where
      by : (o : Option ℕ) → number_in seen.numbers v ≡ o → IsHome variables (home v)
      by None e = let same : home v ≡ Register 8 = is v ∙ ap (numbered_home hs) e in rw same refl
      by (Some i) e = let m = numbered.named v i e in own_is_home variables v m.0 (home v) lt m.2 (given v i m.0 e m.1).0

  held_apart : (places : List VariableSet) → AreHeld places seen → AllByRecursion (AreApart home) places
  held_apart [] held = tt
  held_apart (lives ∷ rest) held = (
    (λ u v a b ne.
        let x = held.0 u a in let y = held.0 v b in
        let xf = x.5 in let xl = x.6 in let yf = y.5 in let yl = y.6 in
        clear_apart x.1 y.1 (home u) (home v) seen.spans.items hs clear (given u x.0 x.1 x.2 x.3).1 (given v y.0 y.1 y.2 y.3).1 (omega arith, omega arith) (λ same. ne (sym x.4 ∙ (same ∙ y.4)))),
    held_apart rest held.1,
  )

pub allocated : (seen : Spans) (hs : List Home) (home : ℕ → Home) (places : List VariableSet) (variables : ℕ) → AreSeen places seen → AreClear seen.spans.items hs → AllZip IsOwnHome seen.spans.items hs
    → ((v : ℕ) → home v ≡ numbered_home hs (number_in seen.numbers v)) → AreHomes variables places home
allocated seen hs home places variables s clear own is = record {
  each = each_home seen hs home s.numbered clear own is variables;
  apart = held_apart seen hs home s.numbered clear own is places s.held;
}

-- ---- registers

-- the variables of the spans that hold a place
abbrev holding : List Span → ℕ → List ℕ
holding [] place = []
holding (x ∷ xs) place = if nat_le x.first place && nat_le place x.last then x.variable ∷ holding xs place else holding xs place

long_as_depth : (xs : List Span) (place : ℕ) → length (holding xs place) ≡ depth_at xs place
long_as_depth [] place = refl
long_as_depth (x ∷ xs) place = by (nat_le x.first place && nat_le place x.last) (long_as_depth xs place)
  where
    by : (b : Bool) → length (holding xs place) ≡ depth_at xs place → length (if b then x.variable ∷ holding xs place else holding xs place) ≡ (if b then 1 else 0) + depth_at xs place
    by true e = omega arith
    by false e = omega arith

-- what holds of each span that holds the place
held_all : (P : ℕ → Type 0) (xs : List Span) (place : ℕ) → ((i : ℕ) (x : Span) → slice_get xs i ≡ Some x → x.first ≤ place → place ≤ x.last → P x.variable) → AllByRecursion P (holding xs place)
held_all P [] place all = tt
held_all P (x ∷ xs) place all = by (nat_le x.first place && nat_le place x.last) refl (held_all P xs place (λ i y e. all (suc i) y e))
  where
    by : (b : Bool) → nat_le x.first place && nat_le place x.last ≡ b → AllByRecursion P (holding xs place) → AllByRecursion P (if b then x.variable ∷ holding xs place else holding xs place)
    by true t rest = (all 0 x refl (grind (arith, nat_tests)) (grind (arith, nat_tests)), rest)
    by false t rest = rest

distinct_held : (number : ℕ → Option ℕ) (xs : List Span) (k place : ℕ) → ((i : ℕ) (x : Span) → slice_get xs i ≡ Some x → number x.variable ≡ Some (k + i)) → IsDistinct nat_eq (holding xs place)
unfolding IsDistinct
distinct_held number [] k place named = tt
distinct_held number (x ∷ xs) k place named = by (nat_le x.first place && nat_le place x.last) (distinct_held number xs (k + 1) place (λ i y e. later i y e))
  where
    later : (i : ℕ) (y : Span) → slice_get xs i ≡ Some y → number y.variable ≡ Some (k + 1 + i)
    later i y e = (let n = named (suc i) y e in let same : k + suc i ≡ k + 1 + i = omega arith in n ∙ ap (λ (j : ℕ). Some j) same)

    other : (i : ℕ) (y : Span) → slice_get xs i ≡ Some y → nat_eq x.variable y.variable ≡ false
    other i y e = look (nat_eq x.variable y.variable) refl
      where
        look : (b : Bool) → nat_eq x.variable y.variable ≡ b → b ≡ false
        look false t = refl
        look true t =
            let same : x.variable ≡ y.variable = grind (arith, nat_tests) in
            let both : Some (k + 0) ≡ Some (k + 1 + i) = sym (named 0 x refl) ∙ ap number same ∙ later i y e in
            let equal : k + 0 ≡ k + 1 + i = same_Some (k + 0) (k + 1 + i) both in
            absurd (omega arith)

    by : (b : Bool) → IsDistinct nat_eq (holding xs place) → IsDistinct nat_eq (if b then x.variable ∷ holding xs place else holding xs place)
    by true rest = (held_all (λ u. nat_eq x.variable u ≡ false) xs place (λ i y e first last. other i y e), rest)
    by false rest = rest

few_spans : (seen : Spans) (places : List VariableSet) → AreSeen places seen → AreFew 18 places → (place : ℕ) → depth_at seen.spans.items place ≤ 18
few_spans seen places s few place =
    let xs = seen.spans.items in
    let most = few place (holding xs place) (distinct_held (number_in seen.numbers) xs 0 place (λ i x e. s.numbered.numbered i x e ∙ (let same : i ≡ 0 + i = omega arith in ap (λ (j : ℕ). Some j) same)))
    (held_all (IsAround places place) xs place (λ i x e first last. (x.first, x.last, first, last, s.ends x.first x.variable (i, x, e, refl, inl refl), s.ends x.last x.variable (i, x, e, refl, inr refl)))) in
    let long = long_as_depth xs place in
    omega arith

register_in : (hs : List Home) (i : ℕ) → NoSlot hs → IsRegister (home_or (slice_get hs i))
register_in [] i h = tt
register_in (Register r ∷ hs) zero h = tt
register_in (Register r ∷ hs) (suc i) h = register_in hs i h
register_in (Slot j ∷ hs) i h = absurd h

register_numbered : (hs : List Home) (o : Option ℕ) → NoSlot hs → IsRegister (numbered_home hs o)
register_numbered hs None h = tt
register_numbered hs (Some i) h = register_in hs i h

pub all_registers : (seen : Spans) (hs : List Home) (home : ℕ → Home) (places : List VariableSet) → AreSeen places seen → (((place : ℕ) → depth_at seen.spans.items place ≤ 18) → NoSlot hs)
    → ((v : ℕ) → home v ≡ numbered_home hs (number_in seen.numbers v)) → AreFew 18 places → (v : ℕ) → IsRegister (home v)
all_registers seen hs home places s scanned is few v = rw (is v) (register_numbered hs (number_in seen.numbers v) (scanned (few_spans seen places s few)))
