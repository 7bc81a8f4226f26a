-- Files that are alike have one plan, and what is broken in one is broken in the other.
use Rattle.std.proofs.Common.{◌≡◌, inl, inr, ℕ, List, [], ◌∷◌, Err, sym, subst}
use Rattle.dae_tree.specs.Files.{FileContents}
use Rattle.dae_tree.specs.Trees.{External}
use Rattle.dae_types_kinds.specs.declared.rules.Breach.{Breach}
use Rattle.dae_types_kinds.specs.Tables.{Tables}
use Rattle.dae_types_rules.specs.Plan.{Broken, IsChecked}
use Rattle.dae_types_file_plans.specs.Files.{plan_file}
use Rattle.dae_types_typed.specs.declared.files.FileParts.{FileParts}
use Rattle.dae_program.specs.declared.program.Program.{Program}
use Rattle.dae_accept.specs.Alike.{AreLike, IsLike}
use Rattle.dae_accept.specs.Once.{AreReadAlike}
use Rattle.dae_types.specs.Answers.{plan_in, start_in}
use Rattle.dae_accept.specs.Accepted.{AreTyped, IsAccepted, IsFirstBroken, IsRuleRefusal}

pub one_start : (f g : FileContents) → IsLike f g → start_in g ≡ start_in f
one_start f g h = cc

broken_alike : (f g : FileContents) (b : Breach) → IsLike f g → IsChecked (plan_in g) (start_in g) (Err b) → Broken (plan_in f) (start_in f) b.rule b.place
broken_alike f g b h k =
    subst (λ (s : Tables). Broken (plan_in f) s b.rule b.place) (one_start f g h)
    (subst (λ (xs : List External). Broken (plan_file xs) (start_in g) b.rule b.place) (sym h.tree) k)

none_broken : (fs gs : List FileContents) (ts : List FileParts) (b : Breach) → AreLike fs gs → AreTyped fs ts → IsFirstBroken gs b → ⊥
none_broken fs [] ts b l h k = k
none_broken [] (g ∷ gs) ts b l h k = l
none_broken (f ∷ fs) (g ∷ gs) [] b l h k = h
none_broken (f ∷ fs) (g ∷ gs) (t ∷ ts) b l h (inl x) = h.0.checked.1 b.rule b.place (broken_alike f g b l.0 x)
none_broken (f ∷ fs) (g ∷ gs) (t ∷ ts) b l h (inr x) = none_broken fs gs ts b l.1 h.1 x.2

pub no_rule : AreReadAlike → (b : Breach) (texts : List (List ℕ)) (memory : ℕ) (p : Program) → IsAccepted texts memory p → IsRuleRefusal texts b → ⊥
no_rule law b texts memory p h k = none_broken h.files k.files h.typed b (law texts h.files k.files h.read k.read) h.checked k.first
