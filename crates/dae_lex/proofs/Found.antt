-- What is found by a number is what is found by the name that has it.
use Rattle.std.proofs.Common.{◌≡◌, ℕ, Bool, true, false, cond, ◌&&◌, not, List, [], ◌∷◌, ◌++◌, map, refl, ap, subst, ◌∙◌, All, Option, Some, None, IfSome, is_some, option_map, nat_eq, if◌then◌else◌}
use Rattle.std.specs.List.{list_any}
use Rattle.std.specs.Map.{lookup}
use Rattle.std.specs.Str.{bytes_eq}
use Rattle.std.proofs.lemmas.List.{map-append}
use Rattle.std.proofs.lemmas.List.Elements.{All-weaker, All-head, All-tail, All-pop, All-push, All-same, All-nil, recursion_from_All}
use Rattle.dae_tree.specs.Pieces.{Cut}
use Rattle.dae_tree.specs.Replacing.{Definition, body_of, is_word_kind, replacement}
use Rattle.dae_lex.specs.declared.numbers.WordNumbers.{WordNumbers}
use Rattle.dae_lex.specs.declared.numbers.NumberedPiece.{NumberedPiece}
use Rattle.dae_lex.specs.declared.macros.Macro.{Macro}
use Rattle.dae_lex.specs.declared.macros.Macros.{Macros}
use Rattle.dae_lex.specs.declared.replace.OpenReplacement.{OpenReplacement}
use Rattle.dae_lex.specs.declared.replace.Stack.{Stack}
use Rattle.dae_lex.specs.Numbers.{IsName, IsNumbered, AreDefined, cuts_of, definitions_of}
use Rattle.dae_lex.specs.Pending.{AreOpen, frame_of, frames_of, names_of}
use Rattle.dae_lex.proofs.Entries.{any_named, body_named}

pub mapped_twice : {A B C : Type 0} (f : A → B) (g : B → C) (o : Option A) → option_map (λ x. g (f x)) o ≡ option_map g (option_map f o)
mapped_twice f g None = refl
mapped_twice f g (Some x) = refl

pub some_from_mapped : {A B : Type 0} (f : A → B) (P : B → Type 0) (o : Option A) → IfSome (option_map f o) P → IfSome o (λ x. P (f x))
some_from_mapped f P None h = tt
some_from_mapped f P (Some x) h = h

some_mapped : {A B : Type 0} (f : A → B) (P : B → Type 0) (o : Option A) → IfSome o (λ x. P (f x)) → IfSome (option_map f o) P
some_mapped f P None h = tt
some_mapped f P (Some x) h = h

module _ (w : WordNumbers) (n : ℕ) where
  pub open_word : (s : Stack) (word : List ℕ) → IsName w n word → AreOpen w s
      → list_any (bytes_eq word) (names_of (frames_of s)) ≡ is_some (lookup (nat_eq n) s.frames.entries)
  open_word s word is h =
      any_named w (λ (f : OpenReplacement). f.name.now) (λ (f : OpenReplacement). cuts_of f.rest.now) n word is s.frames.entries
      (recursion_from_All (λ e. IsName w e.0 e.1.name.now) s.frames.entries
      (All-weaker (λ e. IsName w e.0 e.1.name.now × All (IsNumbered w) e.1.rest.now) (λ e. IsName w e.0 e.1.name.now) (λ e k. k.0) s.frames.entries h))

  pub defined_word : (m : Macros) (word : List ℕ) → IsName w n word → AreDefined w m
      → option_map (λ (x : Macro). cuts_of x.body.items) (lookup (nat_eq n) m.bodies.entries) ≡ body_of (definitions_of m) word
  defined_word m word is h =
      body_named w (λ (x : Macro). x.name.now) (λ (x : Macro). cuts_of x.body.items) n word is m.bodies.entries
      (recursion_from_All (λ e. IsName w e.0 e.1.name.now) m.bodies.entries
      (All-weaker (λ e. IsName w e.0 e.1.name.now × All (IsNumbered w) e.1.body.items) (λ e. IsName w e.0 e.1.name.now) (λ e k. k.0) m.bodies.entries h))

  body_step : (b : Bool) (x : Macro) (o : Option Macro) → All (IsNumbered w) x.body.items → IfSome o (λ m. All (IsNumbered w) m.body.items)
      → IfSome (cond b (Some x) o) (λ m. All (IsNumbered w) m.body.items)
  body_step true x o h rest = h
  body_step false x o h rest = rest

  body_in : (es : List (ℕ × Macro)) → All (λ e. IsName w e.0 e.1.name.now × All (IsNumbered w) e.1.body.items) es
      → IfSome (lookup (nat_eq n) es) (λ m. All (IsNumbered w) m.body.items)
  body_in [] h = tt
  body_in (e ∷ es) h =
      body_step (nat_eq n e.0) e.1 (lookup (nat_eq n) es) (All-head (λ e. IsName w e.0 e.1.name.now × All (IsNumbered w) e.1.body.items) e es h).1
      (body_in es (All-tail (λ e. IsName w e.0 e.1.name.now × All (IsNumbered w) e.1.body.items) e es h))

  pub defined_body : (m : Macros) → AreDefined w m → IfSome (option_map (λ (x : Macro). x.body.items) (lookup (nat_eq n) m.bodies.entries)) (All (IsNumbered w))
  defined_body m h = some_mapped (λ (x : Macro). x.body.items) (All (IsNumbered w)) (lookup (nat_eq n) m.bodies.entries) (body_in m.bodies.entries h)

-- a word whose replacement isn't over stays, and another is replaced by its body
pub stays : (ms : List Definition) (names : List (List ℕ)) (p : Cut) → is_word_kind p.kind ≡ true → list_any (bytes_eq p.spelling) names ≡ true → replacement ms names p ≡ None
stays ms names p e h = ap (λ b. if b && not (list_any (bytes_eq p.spelling) names) then body_of ms p.spelling else None) e ∙ ap (λ b. if not b then body_of ms p.spelling else None) h

pub goes : (ms : List Definition) (names : List (List ℕ)) (p : Cut) → is_word_kind p.kind ≡ true → list_any (bytes_eq p.spelling) names ≡ false → replacement ms names p ≡ body_of ms p.spelling
goes ms names p e h = ap (λ b. if b && not (list_any (bytes_eq p.spelling) names) then body_of ms p.spelling else None) e ∙ ap (λ b. if not b then body_of ms p.spelling else None) h

-- one replacement more, and one less
pub frames_push : (s t : Stack) (e : ℕ × OpenReplacement) → s.frames.entries ≡ t.frames.entries ++ e ∷ [] → frames_of s ≡ frames_of t ++ frame_of e.1 ∷ []
frames_push s t e h = ap (map (λ (x : ℕ × OpenReplacement). frame_of x.1)) h ∙ map-append (λ (x : ℕ × OpenReplacement). frame_of x.1) t.frames.entries (e ∷ [])

module _ (w : WordNumbers) (s t : Stack) (e : ℕ × OpenReplacement) (h : s.frames.entries ≡ t.frames.entries ++ e ∷ []) where
  abbrev Opened : ℕ × OpenReplacement → Type 0
  Opened x = IsName w x.0 x.1.name.now × All (IsNumbered w) x.1.rest.now

  pub open_pop : AreOpen w s → AreOpen w t × Opened e
  open_pop a = All-pop Opened s.frames.entries t.frames.entries (Some e) h a

  pub open_push : AreOpen w t → Opened e → AreOpen w s
  open_push a b = All-same Opened s.frames.entries (t.frames.entries ++ e ∷ []) h (All-push Opened t.frames.entries e a b)

-- the next piece of a body, and the others
pub next_numbered : (w : WordNumbers) (p : NumberedPiece) (ps all : List NumberedPiece) → all ≡ p ∷ ps → All (IsNumbered w) all → IsNumbered w p × All (IsNumbered w) ps
next_numbered w p ps all e h =
    let both = subst (All (IsNumbered w)) e h in (All-head (IsNumbered w) p ps both, All-tail (IsNumbered w) p ps both)

-- no replacements
pub none_open : (w : WordNumbers) (s : Stack) → s.frames.entries ≡ [] → (frames_of s ≡ []) × AreOpen w s
none_open w s h = (
  ap (map (λ (x : ℕ × OpenReplacement). frame_of x.1)) h,
  All-same (λ e. IsName w e.0 e.1.name.now × All (IsNumbered w) e.1.rest.now) s.frames.entries [] h (All-nil (λ e. IsName w e.0 e.1.name.now × All (IsNumbered w) e.1.rest.now)),
)
