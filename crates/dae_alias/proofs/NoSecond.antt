-- No second load is left, where each that is repeated has a variable of its own.
use Rattle.std.proofs.Common.{◌≡◌, ◌⊎◌, ℕ, suc, ◌+◌, ◌≤◌, Bool, true, false, ◌&&◌, if◌then◌else◌, List, [], ◌∷◌, Option, Some, None, inl, inr, refl, ap, sym, ◌∙◌, subst}
use Rattle.std.proofs.lemmas.Bool.{and_parts, or_left, or_right, or_from}
use Rattle.dae_base.specs.Words.{width_of}
use Rattle.dae_base.specs.declared.Place.{Place}
use Rattle.dae_base.specs.declared.Width.{Width}
use Rattle.dae_base.specs.declared.LoadKind.{LoadKind}
use Rattle.dae_base.specs.declared.LoadKind.TheVariants.{I8, U8, I16, U16, I32}
use Rattle.dae_ir.specs.Code.{Done, Do, If, Loop, Each}
use Rattle.dae_ir.specs.Form.{Form}
use Rattle.dae_ir.specs.Scope.{TestIn, ItemIn}
use Rattle.dae_ir.specs.declared.form.Function.{Function}
use Rattle.dae_ir.specs.declared.form.Operand.{Operand}
use Rattle.dae_ir.specs.declared.form.Item.TheVariants.{Assign, Load, Store, Print, Expect, Break, Continue, Call, Return, Halt}
use Rattle.dae_alias.specs.declared.addresses.SymAddr.{SymAddr}
use Rattle.dae_alias.specs.Addresses.{same_place, same_kind, are_apart}
use Rattle.dae_alias.specs.Stretches.{KnownInStretch, nothing, symbol, renewed, after, loads_again, has_second}
use Rattle.dae_alias.specs.declared.held.Held.{Held}
use Rattle.dae_alias.specs.Reuse.{Holders, held_in, still_held, loads_in, known_behind, held_behind, number_of, turned, reused, repeats, is_repeated}
use Rattle.dae_alias.specs.Laws.{NoSecondIsLeft}
use Rattle.dae_alias.proofs.Facts.{same_kind_is, same_place_is, eq_refl, if_some}
use Rattle.dae_alias.proofs.Renaming.{Renaming, renamed, same_base_refl, IsOldIn, still_old, Tied, Next, starts, symbol_renamed, symbol_old, same_renamed, apart_renamed, walked, assign_next, load_next, store_tied}

same_place_refl : (x : SymAddr) → same_place x x ≡ true
same_place_refl x = rw (same_base_refl x.base, eq_refl x.offset) refl

same_kind_refl : (k : LoadKind) → same_kind k k ≡ true
same_kind_refl I8 = refl
same_kind_refl U8 = refl
same_kind_refl I16 = refl
same_kind_refl U16 = refl
same_kind_refl I32 = refl

-- something is held for a load of this kind from this address
IsHeldFor : List Held → LoadKind → SymAddr → Type 0
IsHeldFor held kind at = (u : Held) × (held_in held kind at ≡ Some u)

if_found : (b : Bool) (u : Held) (o : Option Held) (w : Held) → o ≡ Some w → (z : Held) × ((if b then Some u else o) ≡ Some z)
if_found true u o w h = (u, refl)
if_found false u o w h = (w, h)

more_found : (x : Held) (held : List Held) (kind : LoadKind) (at : SymAddr) → IsHeldFor held kind at → IsHeldFor (x ∷ held) kind at
unfolding IsHeldFor
more_found x held kind at h = if_found (same_kind x.kind kind && same_place x.at at) x (held_in held kind at) h.0 h.1

new_found : (held : List Held) (kind : LoadKind) (at value : SymAddr) (l : ℕ) → IsHeldFor (record { kind = kind; at = at; value = value; number = l } ∷ held) kind at
unfolding IsHeldFor
new_found held kind at value l = (record { kind = kind; at = at; value = value; number = l }, rw (same_kind_refl kind, same_place_refl at) refl)

still_found : (held : List Held) (kind : LoadKind) (at y : SymAddr) (width : Width) → are_apart at (width_of kind) y width ≡ true → IsHeldFor held kind at → IsHeldFor (still_held held y width) kind at
unfolding IsHeldFor
still_found [] kind at y width apart h = absurd (let e = h.1 in cc)
still_found (x ∷ xs) kind at y width apart h =
    by (λ e. still_found xs kind at y width apart (h.0, e)) (if_some (same_kind x.kind kind && same_place x.at at) x (held_in xs kind at) h.0 h.1) where
      kept : (c : Bool) → ((u : Held) × (held_in (still_held xs y width) kind at ≡ Some u)) → (u : Held) × (held_in (if c then x ∷ still_held xs y width else still_held xs y width) kind at ≡ Some u)
      kept true g = if_found (same_kind x.kind kind && same_place x.at at) x (held_in (still_held xs y width) kind at) g.0 g.1
      kept false g = g

      first : (c : Bool) → c ≡ true → (same_kind x.kind kind && same_place x.at at) ≡ true → (u : Held) × (held_in (if c then x ∷ still_held xs y width else still_held xs y width) kind at ≡ Some u)
      first true e same = (x, rw same refl)
      first false e same = cc

      by : (held_in xs kind at ≡ Some h.0 → (u : Held) × (held_in (still_held xs y width) kind at ≡ Some u))
          → (((same_kind x.kind kind && same_place x.at at) ≡ true) × (x ≡ h.0)) ⊎ (((same_kind x.kind kind && same_place x.at at) ≡ false) × (held_in xs kind at ≡ Some h.0))
          → (u : Held) × (held_in (if are_apart x.at (width_of x.kind) y width then x ∷ still_held xs y width else still_held xs y width) kind at ≡ Some u)
      by more (inl e) =
          let p = and_parts (same_kind x.kind kind) (same_place x.at at) e.0 in
          let k : x.kind ≡ kind = same_kind_is x.kind kind p.0 in
          let a : x.at ≡ at = same_place_is x.at at p.1 in
          first (are_apart x.at (width_of x.kind) y width) (rw (k, a) apart) e.0
      by more (inr e) = kept (are_apart x.at (width_of x.kind) y width) (more e.1)

-- what isn't held isn't the same as what is
other_load : (held : List Held) (kind kind' : LoadKind) (at at' : SymAddr) → IsHeldFor held kind at → held_in held kind' at' ≡ None → (same_kind kind kind' && same_place at at') ≡ false
unfolding IsHeldFor
other_load held kind kind' at at' h none = by (same_kind kind kind' && same_place at at') refl where
  by : (c : Bool) → (same_kind kind kind' && same_place at at') ≡ c → c ≡ false
  by true e =
      let p = and_parts (same_kind kind kind') (same_place at at') e in
      let k : kind ≡ kind' = same_kind_is kind kind' p.0 in
      let a : at ≡ at' = same_place_is at at' p.1 in
      absurd (let f : held_in held kind' at' ≡ Some h.0 = subst (λ (j : LoadKind). held_in held j at' ≡ Some h.0) k (subst (λ (b : SymAddr). held_in held kind b ≡ Some h.0) a h.1) in cc)
  by false e = refl

if_apart : (b c : Bool) → (b ≡ true → c ≡ false) → (b && c) ≡ false
if_apart true c h = h refl
if_apart false c h = refl

module _ (functions : List Function) (h : Holders) (n : ℕ) (own : (i u : ℕ) → h i ≡ Some u → n ≤ u) (apart : (i j u : ℕ) → h i ≡ Some u → h j ≡ Some u → i ≡ j) where
  -- the loads that are repeated have variables
  abbrev Marked : KnownInStretch → List Held → ℕ → Form → Type 0
  Marked K held l code = (i : ℕ) → is_repeated i K held l code ≡ true → (u : ℕ) × (h i ≡ Some u)

  abbrev HasNames : Form → Type 0
  HasNames code = Each (ItemIn functions n) (TestIn n) code

  given_marked : (K : KnownInStretch) (held : List Held) (l : ℕ) (place : Place) (v : ℕ) (kind : LoadKind) (x : Operand) (k : Form) → Marked K held l (Do place (Load v kind x) k)
      → (g : Held) → held_in held kind (symbol K x) ≡ Some g → (u : ℕ) × (h g.number ≡ Some u)
  given_marked K held l place v kind x k marked g is =
      marked g.number (or_left (repeats g.number (held_in held kind (symbol K x))) _ (rw is (eq_refl g.number)))

  -- what is held isn't loaded again
  abbrev Quiet : Form → Type 0
  Quiet code =
      (K C : KnownInStretch) (r : Renaming) (held : List Held) (l : ℕ) → Tied h n K C r l l held → Marked K held l code → (kind : LoadKind) (at : SymAddr) → IsHeldFor held kind at → IsOldIn n K.times at.base
      → loads_again kind (renamed r at) C (reused h K held l code) ≡ false

  load_quiet : (C : KnownInStretch) (place : Place) (v : ℕ) (kind' : LoadKind) (x : Operand) (k : Form) (kind : LoadKind) (at : SymAddr) (o : Option Held) (holder : Option ℕ)
      → ((g : Held) → o ≡ Some g → (u : ℕ) × (holder ≡ Some u)) → (o ≡ None → (same_kind kind kind' && same_place at (symbol C x)) ≡ false)
      → loads_again kind at (walked C v o holder) k ≡ false → loads_again kind at C (turned place v kind' x o holder k) ≡ false
  load_quiet C place v kind' x k kind at None None marked other rest = or_from _ _ (other refl) rest
  load_quiet C place v kind' x k kind at None (Some u) marked other rest = or_from _ _ (other refl) rest
  load_quiet C place v kind' x k kind at (Some g) None marked other rest = absurd (let m = marked g refl in let c : None ≡ Some m.0 = m.1 in cc)
  load_quiet C place v kind' x k kind at (Some g) (Some u) marked other rest = rest

  held_more : (K : KnownInStretch) (held : List Held) (l v : ℕ) (kind' : LoadKind) (x : Operand) (o : Option Held) (kind : LoadKind) (at : SymAddr) → IsHeldFor held kind at → IsHeldFor (held_behind K held l v kind' x o) kind at
  held_more K held l v kind' x None kind at f = more_found _ held kind at f
  held_more K held l v kind' x (Some g) kind at f = f

  behind_old : (K : KnownInStretch) (v : ℕ) (o : Option Held) (at : SymAddr) → IsOldIn n K.times at.base → IsOldIn n (let z = known_behind K v o in z.times) at.base
  behind_old K v None at i = still_old n K.times v at.base i
  behind_old K v (Some g) at i = still_old n K.times v at.base i

  agree_at : (K K' C' : KnownInStretch) (r : Renaming) (l m : ℕ) (held : List Held) (z : Next h n K K' C' r l m held) (at : SymAddr) → IsOldIn n K.times at.base → renamed z.renaming at ≡ renamed r at
  agree_at K K' C' r l m held z at i = ap (λ (b : _). record { base = b; offset = at.offset }) (z.agrees at.base i)

  has_holder : (o : Option Held) (l : ℕ) → ((g : Held) → o ≡ Some g → (u : ℕ) × (h g.number ≡ Some u)) → (g : Held) → o ≡ Some g → (u : ℕ) × (h (number_of o l) ≡ Some u)
  has_holder o l m g e = let w = m g e in (w.0, subst (λ (p : Option Held). h (number_of p l) ≡ Some w.0) (sym e) w.1)

  quiet : (code : Form) → HasNames code → Quiet code
  quiet Done names K C r held l tied marked kind at found old = refl
  quiet (Do place (Assign v x) k) names K C r held l tied marked kind at found old =
      let t = names.0 in
      let z = assign_next h n K C r l held tied own apart v ((t.0).1) x t.1 in
      subst (λ (a : SymAddr). loads_again kind a (after C (Assign v x)) (reused h (after K (Assign v x)) held l k) ≡ false) (agree_at K _ _ r l l held z at old)
      (quiet k names.1 (after K (Assign v x)) (after C (Assign v x)) z.renaming held l z.tied marked kind at found (still_old n K.times v at.base old))
  quiet (Do place (Load v kind' x) k) names K C r held l tied marked kind at found old =
      let t = names.0 in
      let o = held_in held kind' (symbol K x) in
      let own_marked = given_marked K held l place v kind' x k marked in
      let z = load_next h n K C r l held tied own apart v ((t.0).1) kind' x t.1 o (h (number_of o l)) refl refl own_marked in
      load_quiet C place v kind' x _ kind (renamed r at) o (h (number_of o l)) (has_holder o l own_marked)
      (λ none. rw (symbol_renamed h n K C r l l held tied own x t.1, same_renamed h n K C r l l held tied own at (symbol K x) old (symbol_old h n K C r l l held tied own x t.1)) (other_load held kind kind' at (symbol K x) found none))
      (subst (λ (a : SymAddr). loads_again kind a (walked C v o (h (number_of o l))) (reused h (known_behind K v o) (held_behind K held l v kind' x o) (suc l) k) ≡ false) (agree_at K _ _ r (suc l) (suc l) _ z at old)
      (quiet k names.1 (known_behind K v o) (walked C v o (h (number_of o l))) z.renaming (held_behind K held l v kind' x o) (suc l) z.tied (λ i e. marked i (or_right (repeats i o) _ e)) kind at
      (held_more K held l v kind' x o kind at found) (behind_old K v o at old)))
  quiet (Do place (Store width x y) k) names K C r held l tied marked kind at found old =
      let t = names.0 in
      rw (symbol_renamed h n K C r l l held tied own x t.0, apart_renamed h n K C r l l held tied own at (width_of kind) (symbol K x) width old (symbol_old h n K C r l l held tied own x t.0))
      (if_apart (are_apart at (width_of kind) (symbol K x) width) _
      (λ e. quiet k names.1 K C r (still_held held (symbol K x) width) l (store_tied h n K C r l l held (symbol K x) width tied) marked kind at (still_found held kind at (symbol K x) width e found) old))
  quiet (Do place (Expect check) k) names K C r held l tied marked kind at found old = quiet k names.1 K C r held l tied marked kind at found old
  quiet (Do place (Print spelling x) k) names K C r held l tied marked kind at found old = refl
  quiet (Do place Break k) names K C r held l tied marked kind at found old = refl
  quiet (Do place Continue k) names K C r held l tied marked kind at found old = refl
  quiet (Do place (Call v f xs) k) names K C r held l tied marked kind at found old = refl
  quiet (Do place (Return x) k) names K C r held l tied marked kind at found old = refl
  quiet (Do place (Halt x) k) names K C r held l tied marked kind at found old = refl
  quiet (If place t p q k) names K C r held l tied marked kind at found old = refl
  quiet (Loop place p q k) names K C r held l tied marked kind at found old = refl

  abbrev Clean : Form → Type 0
  Clean code = (K C : KnownInStretch) (r : Renaming) (held : List Held) (l : ℕ) → Tied h n K C r l l held → Marked K held l code → has_second C (reused h K held l code) ≡ false

  load_clean : (C : KnownInStretch) (place : Place) (v : ℕ) (kind : LoadKind) (x : Operand) (k : Form) (o : Option Held) (holder : Option ℕ) → ((g : Held) → o ≡ Some g → (u : ℕ) × (holder ≡ Some u))
      → (o ≡ None → loads_again kind (symbol C x) (walked C v o holder) k ≡ false) → has_second (walked C v o holder) k ≡ false → has_second C (turned place v kind x o holder k) ≡ false
  load_clean C place v kind x k None None marked first rest = or_from _ _ (first refl) rest
  load_clean C place v kind x k None (Some u) marked first rest = or_from _ _ (first refl) rest
  load_clean C place v kind x k (Some g) None marked first rest = absurd (let m = marked g refl in let c : None ≡ Some m.0 = m.1 in cc)
  load_clean C place v kind x k (Some g) (Some u) marked first rest = rest

  none_held : (K : KnownInStretch) (held : List Held) (l v : ℕ) (kind : LoadKind) (x : Operand) (o : Option Held) → o ≡ None → IsHeldFor (held_behind K held l v kind x o) kind (symbol K x)
  none_held K held l v kind x None e = new_found held kind (symbol K x) (renewed K v) l
  none_held K held l v kind x (Some g) e = absurd (let c : Some g ≡ None = e in cc)

  -- from a stretch's start
  anew : (code : Form) → Clean code → (l : ℕ) → Marked nothing [] l code → has_second nothing (reused h nothing [] l code) ≡ false
  anew code goes l marked = goes nothing nothing (λ b. b) [] l (starts h n l) marked

  clean : (code : Form) → HasNames code → Clean code
  clean Done names K C r held l tied marked = refl
  clean (Do place (Assign v x) k) names K C r held l tied marked =
      let t = names.0 in
      let z = assign_next h n K C r l held tied own apart v ((t.0).1) x t.1 in
      clean k names.1 (after K (Assign v x)) (after C (Assign v x)) z.renaming held l z.tied marked
  clean (Do place (Load v kind x) k) names K C r held l tied marked =
      let t = names.0 in
      let o = held_in held kind (symbol K x) in
      let own_marked = given_marked K held l place v kind x k marked in
      let z = load_next h n K C r l held tied own apart v ((t.0).1) kind x t.1 o (h (number_of o l)) refl refl own_marked in
      let more : Marked (known_behind K v o) (held_behind K held l v kind x o) (suc l) k = λ i e. marked i (or_right (repeats i o) _ e) in
      let old = symbol_old h n K C r l l held tied own x t.1 in
      load_clean C place v kind x _ o (h (number_of o l)) (has_holder o l own_marked)
      (λ none. subst (λ (a : SymAddr). loads_again kind a (walked C v o (h (number_of o l))) (reused h (known_behind K v o) (held_behind K held l v kind x o) (suc l) k) ≡ false)
      (agree_at K _ _ r (suc l) (suc l) _ z (symbol K x) old ∙ sym (symbol_renamed h n K C r l l held tied own x t.1))
      (quiet k names.1 (known_behind K v o) (walked C v o (h (number_of o l))) z.renaming (held_behind K held l v kind x o) (suc l) z.tied more kind (symbol K x)
      (none_held K held l v kind x o none) (behind_old K v o (symbol K x) old)))
      (clean k names.1 (known_behind K v o) (walked C v o (h (number_of o l))) z.renaming (held_behind K held l v kind x o) (suc l) z.tied more)
  clean (Do place (Store width x y) k) names K C r held l tied marked = clean k names.1 K C r (still_held held (symbol K x) width) l (store_tied h n K C r l l held (symbol K x) width tied) marked
  clean (Do place (Expect check) k) names K C r held l tied marked = clean k names.1 K C r held l tied marked
  clean (Do place (Print spelling x) k) names K C r held l tied marked = anew k (clean k names.1) l marked
  clean (Do place Break k) names K C r held l tied marked = anew k (clean k names.1) l marked
  clean (Do place Continue k) names K C r held l tied marked = anew k (clean k names.1) l marked
  clean (Do place (Call v f xs) k) names K C r held l tied marked = anew k (clean k names.1) l marked
  clean (Do place (Return x) k) names K C r held l tied marked = anew k (clean k names.1) l marked
  clean (Do place (Halt x) k) names K C r held l tied marked = anew k (clean k names.1) l marked
  clean (If place t p q k) names K C r held l tied marked =
      or_from _ _ (anew p (clean p names.1) l (λ i e. marked i (or_left _ _ e)))
      (or_from _ _ (anew q (clean q names.2) (l + loads_in p) (λ i e. marked i (or_right (is_repeated i nothing [] l p) _ (or_left _ _ e))))
      (anew k (clean k names.3) (l + loads_in p + loads_in q) (λ i e. marked i (or_right (is_repeated i nothing [] l p) _ (or_right (is_repeated i nothing [] (l + loads_in p) q) _ e)))))
  clean (Loop place p q k) names K C r held l tied marked =
      or_from _ _ (anew p (clean p names.0) l (λ i e. marked i (or_left _ _ e)))
      (or_from _ _ (anew q (clean q names.1) (l + loads_in p) (λ i e. marked i (or_right (is_repeated i nothing [] l p) _ (or_left _ _ e))))
      (anew k (clean k names.2) (l + loads_in p + loads_in q) (λ i e. marked i (or_right (is_repeated i nothing [] l p) _ (or_right (is_repeated i nothing [] (l + loads_in p) q) _ e)))))

pub no_second_is_left : NoSecondIsLeft
no_second_is_left functions h own p q is f marked =
    rw (is.body f) (anew functions (h f) (own f) (is.own f) (is.apart f) (p.body f) (clean functions (h f) (own f) (is.own f) (is.apart f) (p.body f) (is.names f)) 0 marked)
