-- A sends as many words and copies as a group has loads and copies for E, and fails only at a check.
use Rattle.std.proofs.Common.{◌≡◌, ℕ, ◌+◌, Bool, true, false, not, ◌&&◌, List, [], ◌∷◌, length, Option, Some, None, if◌then◌else◌, refl, ◌∙◌, arith}
use Rattle.dae_meaning.specs.Worlds.{World}
use Rattle.dae_meaning.specs.Operations.{misplaced}
use Rattle.dae_base.specs.Words.{width_of}
use Rattle.dae_meaning.specs.Variables.{Env}
use Rattle.dae_ir.specs.Form.{Program, value, fault}
use Rattle.dae_ir.specs.Classes.{Classes}
use Rattle.dae_ir.specs.Rounds.{is_for_e, is_copied, how_many}
use Rattle.dae_ir.specs.Canonical.{Access, Passed, Failed, Strayed, with_word, with_copy, unless, reached, access}
use Rattle.dae_ir.specs.declared.stream.Part.{Part}
use Rattle.dae_ir.specs.declared.stream.Part.TheVariants.{Sets, Loads, Tests}
use Rattle.dae_ir_pair.specs.Budget.{is_test, any_part}

abbrev pub Sends : Bool → ℕ → ℕ → Access → Type 0
Sends t n m (Passed env words copies w) = (length words ≡ n) × (length copies ≡ m)
Sends t n m (Failed code w) = t ≡ true
Sends t n m (Strayed w) = Unit {0}

sends_copy : (t b : Bool) (x n m : ℕ) (r : Access) → Sends t n m r → Sends t n ((if b then 1 else 0) + m) (with_copy b x r)
sends_copy t true x n m (Passed env words copies w) h = (h.0, omega (arith, h.1))
sends_copy t false x n m (Passed env words copies w) h = (h.0, omega (arith, h.1))
sends_copy t true x n m (Failed code w) h = h
sends_copy t false x n m (Failed code w) h = h
sends_copy t true x n m (Strayed w) h = tt
sends_copy t false x n m (Strayed w) h = tt

sends_word : (t b : Bool) (x n m : ℕ) (r : Access) → Sends t n m r → Sends t ((if b then 1 else 0) + n) m (with_word b x r)
sends_word t true x n m (Passed env words copies w) h = (omega (arith, h.0), h.1)
sends_word t false x n m (Passed env words copies w) h = (omega (arith, h.0), h.1)
sends_word t true x n m (Failed code w) h = h
sends_word t false x n m (Failed code w) h = h
sends_word t true x n m (Strayed w) h = tt
sends_word t false x n m (Strayed w) h = tt

sends_as : (t : Bool) (n m n' m' : ℕ) (r : Access) → n ≡ n' → m ≡ m' → Sends t n m r → Sends t n' m' r
sends_as t n m n' m' (Passed env words copies w) e d h = (h.0 ∙ e, h.1 ∙ d)
sends_as t n m n' m' (Failed code w) e d h = h
sends_as t n m n' m' (Strayed w) e d h = tt

sends_unless : (t : Bool) (o : Option ℕ) (w : World) (n m : ℕ) (r : Access) → Sends t n m r → Sends true n m (unless o w r)
sends_unless t None w n m (Passed env words copies u) h = h
sends_unless t None w n m (Failed code u) h = refl
sends_unless t None w n m (Strayed u) h = tt
sends_unless t (Some code) w n m r h = refl

sends_reached : (t : Bool) (o : Option ℕ) (w : World) (n m : ℕ) (r : Access) → Sends t n m r → Sends t n m (reached o w r)
sends_reached t None w n m r h = h
sends_reached t (Some code) w n m r h = tt

pub group_sends : (p : Program) (c : Classes) (g : List Part) (w : World) (env : Env) → Sends (any_part is_test g) (how_many (is_for_e c) g) (how_many (is_copied c) g) (access p c g w env)
group_sends p c [] w env = (refl, refl)
group_sends p c (Sets place v x ∷ g) w env =
    sends_copy (any_part is_test g) (c.s v && c.needs v) _ _ _ _ (sends_as (any_part is_test g) _ _ (0 + how_many (is_for_e c) g) _ _ (omega (arith)) refl (group_sends p c g _ _))
group_sends p c (Loads place v kind x ∷ g) w env =
    sends_reached (any_part is_test g) (misplaced (width_of kind) (value x env) (length w.memory)) w _ _ _
    (sends_word (any_part is_test g) (not (c.s v) && c.needs v) _ _ _ _ (sends_copy (any_part is_test g) (c.s v && c.needs v) _ _ _ _ (group_sends p c g _ _)))
group_sends p c (Tests place check ∷ g) w env =
    sends_unless (any_part is_test g) (fault p check w env) _ _ _ _ (sends_as (any_part is_test g) _ _ (0 + how_many (is_for_e c) g) (0 + how_many (is_copied c) g) _ (omega (arith)) (omega (arith)) (group_sends p c g _ _))
