-- Steps of reading, taken apart.
use Rattle.std.proofs.Common.{◌≡◌, ℕ, ℤ, pos, Bool, true, false, ◌==◌, if◌then◌else◌, List, [], ◌∷◌, Option, Some, None, refl, ap, ◌∙◌, subst}
use Rattle.std.specs.Option.{option_map}
use Rattle.std.proofs.lemmas.Bool.{eqb-true}
use Rattle.dae_asm_lines.specs.Targets.{JumpTarget, Given, Named}
use Rattle.dae_asm_lines.specs.Tokens.{LineToken, Word, Number, Sign, Other, is_label, size_of}
use Rattle.dae_asm_lines.specs.Reading.{◌>>=◌, number, name, sign, register, register_of, target, first, end}
use Rattle.dae_asm_lines.specs.Items.{IsRegister, IsTarget}

-- a step that gave y was made of two
pub record Came {A B : Type 0} (o : Option A) (f : A → Option B) (y : B) : Type 0 where
  pub from : A
  pub was : o ≡ Some from
  pub gave : f from ≡ Some y

pub came : {A B : Type 0} (o : Option A) (f : A → Option B) (y : B) → (o >>= f) ≡ Some y → Came o f y
came None f y e = absurd cc
came (Some x) f y e = record { from = x; was = refl; gave = e }

pub came_map : {A B : Type 0} (o : Option A) (f : A → B) (y : B) → option_map f o ≡ Some y → (x : A) × ((o ≡ Some x) × (f x ≡ y))
came_map None f y e = absurd cc
came_map (Some x) f y e = (x, (refl, cc))

-- the first token
pub record Began {X : Type 0} (kind : LineToken → Option X) (ts : List LineToken) (x : X) (rest : List LineToken) : Type 0 where
  pub token : LineToken
  pub whole : ts ≡ token ∷ rest
  pub is : kind token ≡ Some x

pub began : {X : Type 0} (kind : LineToken → Option X) (ts : List LineToken) (f : X × List LineToken) → first kind ts ≡ Some f → Began kind ts f.0 f.1
unfolding first
began {X} kind [] f e = absurd cc
began {X} kind (t ∷ ts) f e =
    let parts = came_map (kind t) (λ (x : X). (x, ts)) f e in
    let rest : ts ≡ f.1 = ap (λ (p : X × List LineToken). p.1) parts.1.1 in
    record { token = t; whole = ap (λ (r : List LineToken). t ∷ r) rest; is = parts.1.0 ∙ ap (λ (p : X × List LineToken). Some (p.0)) parts.1.1 }

pub ended : (ts : List LineToken) (u : Unit {0}) → end ts ≡ Some u → ts ≡ []
unfolding end
ended [] u e = refl
ended (t ∷ ts) u e = absurd cc

-- ---- kinds of tokens

pub number_is : (t : LineToken) (z : ℤ) → number t ≡ Some z → t ≡ Number z
number_is (Word w) z e = absurd cc
number_is (Number y) z e = let same : y ≡ z = cc in ap Number same
number_is (Sign b) z e = absurd cc
number_is Other z e = absurd cc

pub name_is : (t : LineToken) (w : List ℕ) → name t ≡ Some w → t ≡ Word w
name_is (Word v) w e = let same : v ≡ w = cc in ap Word same
name_is (Number y) w e = absurd cc
name_is (Sign b) w e = absurd cc
name_is Other w e = absurd cc

same_sign : (wanted b : ℕ) (t : Bool) → (b == wanted) ≡ t → (u : Unit {0}) → (if t then Some tt else None) ≡ Some u → b ≡ wanted
same_sign wanted b true e u h = eqb-true b wanted e
same_sign wanted b false e u h = absurd cc

pub sign_is : (wanted : ℕ) (t : LineToken) (u : Unit {0}) → sign wanted t ≡ Some u → t ≡ Sign wanted
sign_is wanted (Word v) u e = absurd cc
sign_is wanted (Number y) u e = absurd cc
sign_is wanted (Sign b) u e = ap Sign (same_sign wanted b (b == wanted) refl u e)
sign_is wanted Other u e = absurd cc

register_in : (b : ℕ) (bs : List ℕ) (r : ℤ) (t : Bool) → (b == 120) ≡ t → (if t then option_map (λ n. pos n) (size_of bs) else None) ≡ Some r → IsRegister (Word (b ∷ bs)) r
register_in b bs r true e h = record { digits = bs; whole = ap (λ (c : ℕ). Word (c ∷ bs)) (eqb-true b 120 e); number = h }
register_in b bs r false e h = absurd cc

register_spelled : (w : List ℕ) (r : ℤ) → register_of w ≡ Some r → IsRegister (Word w) r
register_spelled [] r e = absurd cc
register_spelled (b ∷ bs) r e = register_in b bs r (b == 120) refl e

pub register_is : (t : LineToken) (r : ℤ) → register t ≡ Some r → IsRegister t r
register_is (Word w) r e = register_spelled w r e
register_is (Number y) r e = absurd cc
register_is (Sign b) r e = absurd cc
register_is Other r e = absurd cc

target_in : (w : List ℕ) (t : JumpTarget) (b : Bool) → is_label w ≡ b → (if b then Some (Named w) else None) ≡ Some t → IsTarget (Word w) t
target_in w t true e h = let same : Named w ≡ t = cc in let P : JumpTarget → Type 0 = λ x. IsTarget (Word w) x in subst P same (refl, e)
target_in w t false e h = absurd cc

pub target_is : (t : LineToken) (x : JumpTarget) → target t ≡ Some x → IsTarget t x
target_is (Word w) x e = target_in w x (is_label w) refl e
target_is (Number z) x e = let same : Given z ≡ x = cc in let P : JumpTarget → Type 0 = λ y. IsTarget (Number z) y in subst P same refl
target_is (Sign b) x e = absurd cc
target_is Other x e = absurd cc

-- ---- and back

pub is_register : (t : LineToken) (r : ℤ) → IsRegister t r → register t ≡ Some r
is_register t r h = let e = h.whole in let n = h.number in rw (e, n) refl

pub is_target : (t : LineToken) (x : JumpTarget) → IsTarget t x → target t ≡ Some x
is_target t (Given z) e = rw e refl
is_target t (Named w) (e, l) = rw (e, l) refl
