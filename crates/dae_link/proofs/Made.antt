-- From the code of both streams, and from the form that they were split from, to the image that is made so.
use Rattle.std.proofs.Common.{◌≡◌, ℕ, zero, suc, ◌+◌, Bool, true, false, List, [], ◌∷◌, length, refl, ap, sym, ◌∙◌, subst, arith}
use Rattle.std.specs.Prelude.{Option, Some, None, slice_get}
use Rattle.dae_image.specs.declared.Image.{Image}
use Rattle.dae_machine.specs.Machine.{Setup, code}
use Rattle.dae_machine.specs.Opened.{setup_of, opened}
use Rattle.dae_encode.specs.Processor.{Processor}
use Rattle.dae_ir.specs.Classes.{Classes, classes_of}
use Rattle.dae_ir.specs.Streams.{stream_of}
use Rattle.dae_ir.specs.Programs.{program_of, body_in, frame_in, side, IsFunctionOf, AreFunctionsOf, IsStreamOf, IsPairOf}
use Rattle.dae_ir.specs.declared.form.Ir.{Ir}
use Rattle.dae_ir.specs.declared.form.Function.{Function}
use Rattle.dae_ir.specs.declared.stream.Class.{Class}
use Rattle.dae_ir.specs.declared.stream.Pair.{Pair}
use Rattle.dae_ir.specs.declared.stream.Stream.{Stream}
use Rattle.dae_ir.specs.declared.stream.StreamFunction.{StreamFunction}
use Rattle.dae_select_blocks.specs.Laws.{opened_with}
use Rattle.dae_select_values.specs.Sides.{is_a}
use Rattle.dae_link_faithful.specs.Made.{IsSide, IsMade, parameters_in, stream}
use Rattle.dae_link.specs.Sides as sides
use Rattle.dae_link.specs.Sides.{IsStreamIn, IsCodeOf}

-- ---- what a stream says of its functions is what the form says

abbrev IsFunctionAt : Bool → (ℕ → Classes) → Classes → ℕ → Option Function → Option StreamFunction → Type 0
IsFunctionAt by_a of c cap None None = Unit {0}
IsFunctionAt by_a of c cap None (Some g) = ⊥
IsFunctionAt by_a of c cap (Some f) None = ⊥
IsFunctionAt by_a of c cap (Some f) (Some g) = IsFunctionOf by_a of c cap f g

function_at : (by_a : Bool) (of : ℕ → Classes) (cap k : ℕ) (fs : List Function) (gs : List StreamFunction) → AreFunctionsOf by_a of cap k fs gs → (i : ℕ) → IsFunctionAt by_a of (of (k + i)) cap (slice_get fs i) (slice_get gs i)
function_at by_a of cap k [] [] h i = tt
function_at by_a of cap k [] (g ∷ gs) h i = absurd h
function_at by_a of cap k (f ∷ fs) [] h i = absurd h
function_at by_a of cap k (f ∷ fs) (g ∷ gs) h zero = subst (λ (n : ℕ). IsFunctionOf by_a of (of n) cap f g) (omega arith) h.0
function_at by_a of cap k (f ∷ fs) (g ∷ gs) h (suc i) =
    subst (λ (n : ℕ). IsFunctionAt by_a of (of n) cap (slice_get fs i) (slice_get gs i)) (omega arith) (function_at by_a of cap (k + 1) fs gs h.1 i)

functions_long : (by_a : Bool) (of : ℕ → Classes) (cap k : ℕ) (fs : List Function) (gs : List StreamFunction) → AreFunctionsOf by_a of cap k fs gs → length gs ≡ length fs
functions_long by_a of cap k [] [] h = refl
functions_long by_a of cap k [] (g ∷ gs) h = absurd h
functions_long by_a of cap k (f ∷ fs) [] h = absurd h
functions_long by_a of cap k (f ∷ fs) (g ∷ gs) h = ap suc (functions_long by_a of cap (k + 1) fs gs h.1)

same_frame : (by_a : Bool) (of : ℕ → Classes) (c : Classes) (cap : ℕ) (f : Option Function) (g : Option StreamFunction) → IsFunctionAt by_a of c cap f g → frame_in f ≡ sides.frame_in g
same_frame by_a of c cap None None h = refl
same_frame by_a of c cap None (Some g) h = absurd h
same_frame by_a of c cap (Some f) None h = absurd h
same_frame by_a of c cap (Some f) (Some g) h = sym h.frame

same_parameters : (by_a : Bool) (of : ℕ → Classes) (c : Classes) (cap : ℕ) (f : Option Function) (g : Option StreamFunction) → IsFunctionAt by_a of c cap f g → parameters_in f ≡ sides.parameters_in g
same_parameters by_a of c cap None None h = refl
same_parameters by_a of c cap None (Some g) h = absurd h
same_parameters by_a of c cap (Some f) None h = absurd h
same_parameters by_a of c cap (Some f) (Some g) h = sym h.parameters

same_body : (by_a : Bool) (of : ℕ → Classes) (c : Classes) (cap : ℕ) (f : Option Function) (g : Option StreamFunction) → IsFunctionAt by_a of c cap f g → stream_of by_a of c cap (body_in f) ≡ sides.body_in g
same_body by_a of c cap None None h = refl
same_body by_a of c cap None (Some g) h = absurd h
same_body by_a of c cap (Some f) None h = absurd h
same_body by_a of c cap (Some f) (Some g) h = sym h.body

module _ (ir : Ir) (tables : List (List Class)) (cap : ℕ) where
  has_stream : (by_a : Bool) (s : Stream) → IsStreamOf by_a (classes_of tables) cap ir s → IsStreamIn s (program_of ir) (stream ir tables cap by_a) (λ f. parameters_in (slice_get ir.functions f))
  has_stream by_a s is =
      let here : (f : ℕ) → IsFunctionAt by_a (classes_of tables) (classes_of tables f) cap (slice_get ir.functions f) (slice_get s.functions f) =
      λ f. subst (λ (n : ℕ). IsFunctionAt by_a (classes_of tables) (classes_of tables n) cap (slice_get ir.functions f) (slice_get s.functions f)) (omega arith) (function_at by_a (classes_of tables) cap 0 ir.functions s.functions is.functions f) in
      record {
        limit = sym is.calls;
        frame = (λ f. same_frame by_a (classes_of tables) (classes_of tables f) cap (slice_get ir.functions f) (slice_get s.functions f) (here f));
        bodies = (λ f. same_body by_a (classes_of tables) (classes_of tables f) cap (slice_get ir.functions f) (slice_get s.functions f) (here f));
        counts = (λ f. same_parameters by_a (classes_of tables) (classes_of tables f) cap (slice_get ir.functions f) (slice_get s.functions f) (here f));
      }

  a_or_e : (b : Bool) → is_a (side b) ≡ b
  a_or_e true = refl
  a_or_e false = refl

  side_made : (by_a : Bool) (s : Stream) → IsStreamOf by_a (classes_of tables) cap ir s → (words : List ℕ) (private : ℕ) → IsCodeOf s words private → (setup : Setup) → code setup (side by_a) ≡ words → setup.memory ≡ s.memory
      → IsSide by_a (program_of ir) (stream ir tables cap by_a) (λ f. parameters_in (slice_get ir.functions f)) (length ir.functions) ir.main ir.frames setup (opened_with private)
  side_made by_a s is words private made setup is_code is_memory =
      let body = stream ir tables cap by_a in
      let counts : ℕ → ℕ = λ f. parameters_in (slice_get ir.functions f) in
      let p = program_of ir in
      let first = opened_with private in
      let whole = made p body counts setup (has_stream by_a s is) (ap (code setup) is.side ∙ is_code) is_memory in
      subst (λ (b : Bool). IsSide b p body counts (length ir.functions) ir.main ir.frames setup first) (ap is_a is.side ∙ a_or_e by_a)
      (subst (λ (n : ℕ). IsSide (is_a s.side) p body counts n ir.main ir.frames setup first) (functions_long by_a (classes_of tables) cap 0 ir.functions s.functions is.functions)
      (subst (λ (n : ℕ). IsSide (is_a s.side) p body counts (length s.functions) n ir.frames setup first) is.main
      (subst (λ (n : ℕ). IsSide (is_a s.side) p body counts (length s.functions) s.main n setup first) is.frames whole)))

  pub is_made : (pair : Pair) → IsPairOf ir tables cap pair → (image : Image) (private_a private_e : ℕ) → IsCodeOf pair.a image.code_a private_a → IsCodeOf pair.e image.code_e private_e → image.memory ≡ pair.a.memory
      → (opened image).a ≡ opened_with private_a → (opened image).e ≡ opened_with private_e → IsMade ir tables cap image
  is_made pair is image private_a private_e a e memory opens_a opens_e =
      let setup = setup_of image image.budget in
      record {
        memory = memory ∙ is.a.memory;
        a = subst (λ (first : Processor). IsSide true (program_of ir) (stream ir tables cap true) (λ f. parameters_in (slice_get ir.functions f)) (length ir.functions) ir.main ir.frames setup first) (sym opens_a) (side_made true pair.a is.a image.code_a private_a a setup refl memory);
        e = subst (λ (first : Processor). IsSide false (program_of ir) (stream ir tables cap false) (λ f. parameters_in (slice_get ir.functions f)) (length ir.functions) ir.main ir.frames setup first) (sym opens_e) (side_made false pair.e is.e image.code_e private_e e setup refl (memory ∙ is.a.memory ∙ sym is.e.memory));
      }
