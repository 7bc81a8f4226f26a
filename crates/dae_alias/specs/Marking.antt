-- The loads that are marked, since later ones of their stretch repeat them.
use Rattle.std.specs.Prelude.{◌≡◌, ℕ, ◌+◌, ◌<◌, Bool, false, ◌||◌, List, [], length, slice_index_or}
use Rattle.std.specs.List.{AllByRecursion}
use Rattle.dae_ir.specs.Code.{Done}
use Rattle.dae_ir.specs.Form.{Form, before, form_of}
use Rattle.dae_ir.specs.declared.form.Statement.{Statement}
use Rattle.dae_alias.specs.declared.held.Held.{Held}
use Rattle.dae_alias.specs.declared.walking.Walk.{Walk}
use Rattle.dae_alias.specs.Meeting.{known_in, held_by}
use Rattle.dae_alias.specs.Stretches.{nothing, IsSetOnceMore}
use Rattle.dae_alias.specs.Reuse.{loads_in, is_repeated}

-- whether load number i is marked
abbrev pub marked : List Bool → ℕ → Bool
marked marks i = slice_index_or marks i false

-- there is a mark for each load that was met, and what is held was met
pub record IsAt (w : Walk) (marks : List Bool) : Type 0 where
  pub count : length marks ≡ w.loads
  pub met : AllByRecursion (λ (x : Held). x.number < w.loads) (held_by w)

-- whether the code behind what a walk has met repeats load number i
abbrev pub repeated_from : ℕ → Walk → Form → Bool
repeated_from i w code = is_repeated i (known_in w) (held_by w) w.loads code

-- a statement is met: what is marked by now, or is repeated in what follows, is what was marked or is repeated from here on
pub record Marks (s : Statement) (old new : Walk) (marks marks' : List Bool) : Type 0 where
  pub told : (i : ℕ) (k : Form)
      → (marked marks' i || repeated_from i new k)
      ≡ (marked marks i || repeated_from i old (before s k))
  pub loads : new.loads ≡ old.loads + loads_in (before s Done)
  pub at : IsAt new marks'
  pub once : IsSetOnceMore (known_in old) (known_in new)

-- a list of statements is met, which begins and ends a stretch
pub record MarksAll (ss : List Statement) (marks marks' : List Bool) : Type 0 where
  pub told : (i : ℕ)
      → marked marks' i ≡ (marked marks i || is_repeated i nothing [] (length marks) (form_of ss))
  pub loads : length marks' ≡ length marks + loads_in (form_of ss)

-- just the loads of the code that are repeated are marked
pub record AreRepeated (ss : List Statement) (marks : List Bool) : Type 0 where
  pub told : (i : ℕ) → marked marks i ≡ is_repeated i nothing [] 0 (form_of ss)
  pub loads : length marks ≡ loads_in (form_of ss)
