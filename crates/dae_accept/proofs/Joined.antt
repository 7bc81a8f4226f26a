-- Files that are alike come to typed files of one outline, and so have one first cause not to join.
use Rattle.std.proofs.Common.{◌≡◌, ℕ, List, [], ◌∷◌, map, Some, None, ap, sym, subst, refl, ◌∙◌}
use Rattle.std.proofs.lemmas.Option.{same_Some}
use Rattle.dae_tree.specs.Files.{FileContents}
use Rattle.dae_tree.specs.Trees.{External}
use Rattle.dae_types_kinds.specs.Tables.{Tables}
use Rattle.dae_types_rules.specs.Plan.{IsTyped}
use Rattle.dae_types_file_plans.specs.Files.{Product, plan_file}
use Rattle.dae_types_typed.specs.declared.files.FileParts.{FileParts}
use Rattle.dae_types_typed.specs.Reading.{declarations_in}
use Rattle.dae_program.specs.declared.program.Program.{Program}
use Rattle.dae_accept.specs.Alike.{AreLike, IsLike}
use Rattle.dae_accept.specs.Once.{AreReadAlike}
use Rattle.dae_types.specs.Answers.{IsTypedFile, plan_in, start_in}
use Rattle.dae_unit.specs.declared.errors.JoinError.{JoinError}
use Rattle.dae_unit.specs.Joining.{cause}
use Rattle.dae_unit.specs.Outlines.{outline, OutlinesTellCauses}
use Rattle.dae_accept.specs.Accepted.{AreTyped, IsAccepted, IsJoinRefusal}
use Rattle.dae_accept.proofs.Faults.{one_start}

typed_alike : (f g : FileContents) (s : Tables) (products : List Product) → IsLike f g → IsTyped (plan_in g) (start_in g) (s, products) → IsTyped (plan_in f) (start_in f) (s, products)
typed_alike f g s products l h =
    subst (λ (start : Tables). IsTyped (plan_in f) start (s, products)) (one_start f g l)
    (subst (λ (xs : List External). IsTyped (plan_file xs) (start_in g) (s, products)) (sym l.tree) h)

one_outline : (f g : FileContents) (t u : FileParts) → IsLike f g → IsTypedFile f t → IsTypedFile g u → outline t ≡ outline u
one_outline f g t u l h k =
    let other = typed_alike f g k.tables k.products l k.checked.0 in
    let tables : h.tables ≡ k.tables = sym h.checked.0.0 ∙ other.0 in
    let products : h.products ≡ k.products = same_Some h.products k.products (sym h.checked.0.1 ∙ other.1) in
    let a = h.reads in
    let b = k.reads in
    λ i. record {
      shapes = (a.shapes ∙ ap (λ (s : Tables). s.shapes) tables ∙ sym b.shapes) i;
      structures = (a.structures ∙ ap (λ (s : Tables). s.structures) tables ∙ sym b.structures) i;
      components = (a.components ∙ ap (λ (s : Tables). s.components) tables ∙ sym b.components) i;
      objects = (a.objects ∙ ap (λ (s : Tables). s.objects) tables ∙ sym b.objects) i;
      routines = (a.routines ∙ ap (λ (s : Tables). s.routines) tables ∙ sym b.routines) i;
      declarations = (a.declarations ∙ ap declarations_in products ∙ sym b.declarations) i;
      contents = [];
      functions = [];
      uses = (a.uses ∙ ap (λ (s : Tables). s.uses) tables ∙ sym b.uses) i;
      names = (a.names ∙ l.names ∙ sym b.names) i;
      literals = (a.literals ∙ ap (λ (s : Tables). s.literals) tables ∙ sym b.literals) i;
    }

one_outlines : (fs gs : List FileContents) (ts us : List FileParts) → AreLike fs gs → AreTyped fs ts → AreTyped gs us → map outline ts ≡ map outline us
one_outlines [] [] [] [] l h k = refl
one_outlines [] [] [] (u ∷ us) l h k = absurd k
one_outlines [] [] (t ∷ ts) us l h k = absurd h
one_outlines [] (g ∷ gs) ts us l h k = absurd l
one_outlines (f ∷ fs) [] ts us l h k = absurd l
one_outlines (f ∷ fs) (g ∷ gs) [] us l h k = absurd h
one_outlines (f ∷ fs) (g ∷ gs) (t ∷ ts) [] l h k = absurd k
one_outlines (f ∷ fs) (g ∷ gs) (t ∷ ts) (u ∷ us) l h k =
    ap (λ (x : FileParts). x ∷ map outline ts) (one_outline f g t u l.0 h.0 k.0)
    ∙ ap (λ (xs : List FileParts). outline u ∷ xs) (one_outlines fs gs ts us l.1 h.1 k.1)

pub no_cause : AreReadAlike → OutlinesTellCauses → (e : JoinError) (texts : List (List ℕ)) (memory : ℕ) (p : Program) → IsAccepted texts memory p → IsJoinRefusal texts memory e → ⊥
no_cause law told e texts memory p h k =
    let alike = one_outlines h.files k.files h.typed k.typed (law texts h.files k.files h.read k.read) h.checked k.checked in
    let same : cause k.typed memory ≡ cause h.typed memory = sym (told k.typed memory) ∙ ap (λ (fs : List FileParts). cause fs memory) (sym alike) ∙ told h.typed memory in
    let never : Some e ≡ None = sym k.first ∙ same ∙ h.joined.parts.fits in
    absurd cc
