-- The numbers of what is used, as one use more is gone through.
use Rattle.std.proofs.Common.{◌≡◌, ℕ, ◌+◌, ◌<◌, ◌≤◌, Bool, true, false, ◌||◌, cond, if◌then◌else◌, nat_eq, List, length, take, get_or, Option, Some, None, refl, ap, sym, ◌∙◌, subst, arith}
use Rattle.std.specs.List.{list_any}
use Rattle.std.proofs.lemmas.List.{take_all}
use Rattle.std.proofs.lemmas.List.Folds.{list_any_more}
use Rattle.indexmap.specs.IndexSet.{IndexSet, IsEmpty, Updates, contains}
use Rattle.dae_base.proofs.Laws.{or_nothing}
use Rattle.dae_types_kinds.specs.declared.tables.Entity.{Entity}
use Rattle.dae_types_kinds.specs.declared.tables.Entity.TheVariants as entity
use Rattle.dae_types_kinds.specs.declared.tables.EntityUse.{EntityUse}
use Rattle.dae_types_typed.specs.Sound.{is_use_of, is_used, same_entity}
use Rattle.dae_types_sound.specs.Used.{AreUsed, has_number, used_function, used_object}

pub object_tells : (n : ℕ) (e : Entity) → same_entity (entity.Object n) e ≡ has_number (used_object e) n
object_tells n (entity.Object m) = refl
object_tells n (entity.Local m) = refl
object_tells n (entity.Type m) = refl
object_tells n (entity.Enumerator m) = refl
object_tells n (entity.Function m) = refl

pub function_tells : (n : ℕ) (e : Entity) → same_entity (entity.Function n) e ≡ has_number (used_function e) n
function_tells n (entity.Object m) = refl
function_tells n (entity.Local m) = refl
function_tells n (entity.Type m) = refl
function_tells n (entity.Enumerator m) = refl
function_tells n (entity.Function m) = refl

turned : (m n : ℕ) → nat_eq m n ≡ nat_eq n m
turned m n = grind arith

either : (b c : Bool) → cond b true c ≡ (c || b)
either true true = refl
either true false = refl
either false true = refl
either false false = refl

module _ {S : Type 0} where
  pub number_added : (old new : IndexSet ℕ S) (m : ℕ) → Updates nat_eq old new m true → (n : ℕ) → contains nat_eq new n ≡ (contains nat_eq old n || nat_eq n m)
  number_added old new m updates n =
      updates.0 n ∙ either (nat_eq m n) (contains nat_eq old n) ∙ ap (λ (b : Bool). contains nat_eq old n || b) (turned m n)

  pub none_added : (old : IndexSet ℕ S) (n : ℕ) → contains nat_eq old n ≡ (contains nat_eq old n || false)
  none_added old n = sym (or_nothing (contains nat_eq old n))

  pub used_begin : (uses : List EntityUse) (of : ℕ → Entity) (numbers : IndexSet ℕ S) → IsEmpty numbers → AreUsed (take 0 uses) of numbers
  used_begin uses of numbers empty = λ n. ap (list_any (nat_eq n)) empty

  pub used_more : (uses : List EntityUse) (of : ℕ → Entity) (number : Entity → Option ℕ) → ((n : ℕ) (e : Entity) → same_entity (of n) e ≡ has_number (number e) n)
      → (i : ℕ) (d : EntityUse) (old new : IndexSet ℕ S) → i < length uses → ((n : ℕ) → contains nat_eq new n ≡ (contains nat_eq old n || has_number (number (get_or uses i d).entity) n))
      → AreUsed (take i uses) of old → AreUsed (take (i + 1) uses) of new
  used_more uses of number tells i d old new lt step before = λ n.
      let e = (get_or uses i d).entity in
      step n ∙ ap (λ (b : Bool). b || has_number (number e) n) (before n) ∙ ap (λ (b : Bool). is_used (take i uses) (of n) || b) (sym (tells n e))
      ∙ sym (list_any_more (is_use_of (of n)) uses i d lt)

  pub used_end : (uses : List EntityUse) (of : ℕ → Entity) (i : ℕ) (numbers : IndexSet ℕ S) → length uses ≤ i → AreUsed (take i uses) of numbers → AreUsed uses of numbers
  used_end uses of i numbers le so_far = subst (λ (us : List EntityUse). AreUsed us of numbers) (take_all i uses le) so_far

-- ---- what is told of what is used

pub told : {A : Type 0} (b u : Bool) (x y : A) → b ≡ u → b ≡ true → x ≡ y → Some x ≡ (if u then Some y else None)
told b u x y same held e = rw (sym same ∙ held) (ap Some e)

pub untold : {A : Type 0} (b u : Bool) (y : A) → b ≡ u → b ≡ false → None ≡ (if u then Some y else None)
untold b u y same lacked = rw (sym same ∙ lacked) refl
