-- Webs that start inside code, and what their variables have at the starts of its lists and behind it.
use Rattle.std.proofs.Common.{◌≡◌, ℕ, Bool, true, false, ◌||◌, nat_eq, Option, Some, None, refl, ap, sym, ◌∙◌}
use Rattle.dae_ir.specs.Code.{Done, Do, If, Loop}
use Rattle.dae_ir.specs.Form.{Form}
use Rattle.dae_webs.specs.Current.{Current, web_of}
use Rattle.dae_webs.specs.Renamed.{Starts, variable_set, number_after, number_behind, webs_next, without_next, without_started, without_both, webs_behind, at_second, at_rest}
use Rattle.dae_webs.proofs.Tables.{hide, set_none, set_other}

-- a web of v starts at a definition, and somewhere in code
abbrev pub begun : Option ℕ → Option ℕ → ℕ → Bool
begun None d v = false
begun (Some u) None v = false
begun (Some u) (Some w) v = nat_eq v w

abbrev pub begins : Starts → ℕ → Form → ℕ → Bool
begins b n Done v = false
begins b n (Do place item k) v = begun (b n) (variable_set item) v || begins b (number_after n item) k v
begins b n (If place t p q k) v = begins b n p v || (begins b (number_behind n p) q v || begins b (number_behind (number_behind n p) q) k v)
begins b n (Loop place p q k) v = begins b n p v || (begins b (number_behind n p) q v || begins b (number_behind (number_behind n p) q) k v)

hide_both : (c a : Bool) (x : Option ℕ) → hide c (hide a x) ≡ hide (a || c) x
hide_both true true x = refl
hide_both true false x = refl
hide_both false true x = refl
hide_both false false x = refl

hide_three : (c b a : Bool) (x : Option ℕ) → hide c (hide b (hide a x)) ≡ hide (a || (b || c)) x
hide_three c b a x = hide_both c b (hide a x) ∙ hide_both (b || c) a x

hide_neither : (c a : Bool) (x : Option ℕ) → c ≡ false → a ≡ false → hide c (hide a x) ≡ x
hide_neither c a x h k = rw (h, k) refl

hide_inner : (c a : Bool) (x y : Option ℕ) → a ≡ true → hide c (hide a x) ≡ hide c (hide a y)
hide_inner c a x y h = rw h refl

hide_outer : (c : Bool) (x y : Option ℕ) → c ≡ true → hide c x ≡ hide c y
hide_outer c x y h = rw h refl

hide_some : (c a : Bool) (x : Option ℕ) (u : ℕ) → hide c (hide a x) ≡ Some u → (c ≡ false) × (a ≡ false) × (x ≡ Some u)
hide_some true a x u e = absurd cc
hide_some false true x u e = absurd cc
hide_some false false x u e = (refl, refl, e)

pub or_neither : (a c : Bool) → (a || c) ≡ false → (a ≡ false) × (c ≡ false)
or_neither true c h = absurd cc
or_neither false c h = (refl, h)

-- ---- what is taken away

without_next_at : (o d : Option ℕ) (m : Current) (v : ℕ) → web_of (without_next o m d) v ≡ hide (begun o d v) (web_of m v)
without_next_at None None m v = refl
without_next_at None (Some w) m v = refl
without_next_at (Some u) None m v = refl
without_next_at (Some u) (Some w) m v = set_none m w v

without_at : (b : Starts) (code : Form) (n : ℕ) (m : Current) (v : ℕ) → web_of (without_started b n m code) v ≡ hide (begins b n code v) (web_of m v)
without_at b Done n m v = refl
without_at b (Do place item k) n m v =
    without_at b k (number_after n item) (without_next (b n) m (variable_set item)) v
    ∙ ap (λ (x : Option ℕ). hide (begins b (number_after n item) k v) x) (without_next_at (b n) (variable_set item) m v)
    ∙ hide_both (begins b (number_after n item) k v) (begun (b n) (variable_set item) v) (web_of m v)
without_at b (If place t p q k) n m v =
    without_at b k (number_behind (number_behind n p) q) _ v
    ∙ ap (λ (x : Option ℕ). hide (begins b (number_behind (number_behind n p) q) k v) x)
    (without_at b q (number_behind n p) _ v ∙ ap (λ (x : Option ℕ). hide (begins b (number_behind n p) q v) x) (without_at b p n m v))
    ∙ hide_three (begins b (number_behind (number_behind n p) q) k v) (begins b (number_behind n p) q v) (begins b n p v) (web_of m v)
without_at b (Loop place p q k) n m v =
    without_at b k (number_behind (number_behind n p) q) _ v
    ∙ ap (λ (x : Option ℕ). hide (begins b (number_behind (number_behind n p) q) k v) x)
    (without_at b q (number_behind n p) _ v ∙ ap (λ (x : Option ℕ). hide (begins b (number_behind n p) q v) x) (without_at b p n m v))
    ∙ hide_three (begins b (number_behind (number_behind n p) q) k v) (begins b (number_behind n p) q v) (begins b n p v) (web_of m v)

module _ (b : Starts) (n : ℕ) (p q : Form) where
  abbrev pub first_begins : ℕ → Bool
  first_begins v = begins b n p v

  abbrev pub second_begins : ℕ → Bool
  second_begins v = begins b (number_behind n p) q v

  both_at : (m : Current) (v : ℕ) → web_of (without_both b n p q m) v ≡ hide (second_begins v) (hide (first_begins v) (web_of m v))
  both_at m v = without_at b q (number_behind n p) (without_started b n m p) v ∙ ap (λ (x : Option ℕ). hide (second_begins v) x) (without_at b p n m v)

  -- where no web of v starts in either list
  pub both_kept : (m : Current) (v : ℕ) → first_begins v ≡ false → second_begins v ≡ false → web_of (without_both b n p q m) v ≡ web_of m v
  both_kept m v h k = both_at m v ∙ hide_neither (second_begins v) (first_begins v) (web_of m v) k h

  -- what has a web then had it before, and none of its webs starts in either
  pub both_some : (m : Current) (v u : ℕ) → web_of (without_both b n p q m) v ≡ Some u → (second_begins v ≡ false) × (first_begins v ≡ false) × (web_of m v ≡ Some u)
  both_some m v u e = hide_some (second_begins v) (first_begins v) (web_of m v) u (sym (both_at m v) ∙ e)

  both_same : (x m : Current) (v : ℕ) → (first_begins v ≡ false → second_begins v ≡ false → web_of x v ≡ web_of m v) → web_of (without_both b n p q x) v ≡ web_of (without_both b n p q m) v
  both_same x m v h = both_at x v ∙ by (first_begins v) (second_begins v) refl refl ∙ sym (both_at m v) where
    by : (c d : Bool) → first_begins v ≡ c → second_begins v ≡ d → hide (second_begins v) (hide (first_begins v) (web_of x v)) ≡ hide (second_begins v) (hide (first_begins v) (web_of m v))
    by true d e f = hide_inner (second_begins v) (first_begins v) (web_of x v) (web_of m v) e
    by false true e f = hide_outer (second_begins v) _ _ f
    by false false e f = ap (λ (o : Option ℕ). hide (second_begins v) (hide (first_begins v) o)) (h e f)

-- ---- behind code

pub next_kept : (o d : Option ℕ) (m : Current) (v : ℕ) → begun o d v ≡ false → web_of (webs_next o m d) v ≡ web_of m v
next_kept None None m v e = refl
next_kept None (Some w) m v e = refl
next_kept (Some u) None m v e = refl
next_kept (Some u) (Some w) m v e = set_other m w v (Some u) e

module _ (b : Starts) where
  abbrev Keeps : Form → Type 0
  Keeps code = (n : ℕ) (m : Current) (v : ℕ) → begins b n code v ≡ false → web_of (webs_behind b n m code) v ≡ web_of m v

  lists_kept : (p q k : Form) → Keeps p → Keeps q → Keeps k → (n : ℕ) (m : Current) (v : ℕ)
      → (begins b n p v || (begins b (number_behind n p) q v || begins b (number_behind (number_behind n p) q) k v)) ≡ false
      → web_of (webs_behind b (number_behind (number_behind n p) q) (without_both b n p q (webs_behind b (number_behind n p) (without_both b n p q (webs_behind b n (without_both b n p q m) p)) q)) k) v ≡ web_of m v
  lists_kept p q k hp hq hk n m v e =
      let one = or_neither (begins b n p v) (begins b (number_behind n p) q v || begins b (number_behind (number_behind n p) q) k v) e in
      let two = or_neither (begins b (number_behind n p) q v) (begins b (number_behind (number_behind n p) q) k v) one.1 in
      hk (number_behind (number_behind n p) q) _ v two.1
      ∙ both_kept b n p q _ v one.0 two.0
      ∙ hq (number_behind n p) _ v two.0
      ∙ both_kept b n p q _ v one.0 two.0
      ∙ hp n _ v one.0
      ∙ both_kept b n p q m v one.0 two.0

  -- where no web of v starts in code, v has behind it what it had before
  pub behind_kept : (code : Form) → Keeps code
  behind_kept Done n m v e = refl
  behind_kept (Do place item k) n m v e =
      let h = or_neither (begun (b n) (variable_set item) v) (begins b (number_after n item) k v) e in
      behind_kept k (number_after n item) _ v h.1 ∙ next_kept (b n) (variable_set item) m v h.0
  behind_kept (If place t p q k) n m v e = lists_kept p q k (behind_kept p) (behind_kept q) (behind_kept k) n m v e
  behind_kept (Loop place p q k) n m v e = lists_kept p q k (behind_kept p) (behind_kept q) (behind_kept k) n m v e

-- what has a web in the first has it in the second
abbrev pub Within : Current → Current → Type 0
Within l m = (v u : ℕ) → web_of l v ≡ Some u → web_of m v ≡ Some u

-- at the start of the second list, and behind both, just that has a web that has one at the start of the first
module _ (b : Starts) (n : ℕ) (p q : Form) (m : Current) where
  abbrev pub in_first : Current
  in_first = without_both b n p q m

  abbrev pub in_second : Current
  in_second = at_second b n p q in_first

  abbrev pub in_rest : Current
  in_rest = at_rest b n p q in_first

  pub second_at : (v : ℕ) → web_of in_second v ≡ web_of in_first v
  second_at v = both_same b n p q (webs_behind b n in_first p) m v (λ e f. behind_kept b p n in_first v e ∙ both_kept b n p q m v e f)

  pub rest_at : (v : ℕ) → web_of in_rest v ≡ web_of in_first v
  rest_at v =
      both_same b n p q (webs_behind b (number_behind n p) in_second q) m v
      (λ e f. behind_kept b q (number_behind n p) in_second v f ∙ second_at v ∙ both_kept b n p q m v e f)

  pub first_within : Within in_first m
  first_within v u is = (both_some b n p q m v u is).2

  pub second_within : Within in_second in_first
  second_within v u is = sym (second_at v) ∙ is

  pub rest_within : Within in_rest in_first
  rest_within v u is = sym (rest_at v) ∙ is

  -- and it has that behind either list
  pub behind_first : Within in_first (webs_behind b n in_first p)
  behind_first v u e = let h = both_some b n p q m v u e in behind_kept b p n in_first v h.1 ∙ e

  pub behind_second : Within in_first (webs_behind b (number_behind n p) in_second q)
  behind_second v u e = let h = both_some b n p q m v u e in behind_kept b q (number_behind n p) in_second v h.0 ∙ second_at v ∙ e

  pub rest_first : Within in_rest (webs_behind b n in_first p)
  rest_first v u e = behind_first v u (rest_within v u e)

  pub rest_second : Within in_rest (webs_behind b (number_behind n p) in_second q)
  rest_second v u e = behind_second v u (rest_within v u e)
