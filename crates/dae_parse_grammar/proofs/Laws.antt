-- The laws of the machine and of the trees that it reads, for the proofs of the crates above.
use Rattle.std.proofs.Common.{◌≡◌, ℕ, suc, ◌+◌, ◌*◌, ◌<◌, ◌≤◌, List, [], ◌∷◌, ◌++◌, length, Some, None, refl}
use Rattle.dae_tree.specs.Depth.{first_deeper, nodes_file}
use Rattle.dae_tree.specs.Marks.{TokenMark}
use Rattle.dae_tree.specs.Names.{Names}
use Rattle.dae_tree.specs.Statements.{IsTreeOf, spell_external}
use Rattle.dae_tree.specs.Trees.{External}
use Rattle.dae_parse_grammar.specs.FirstPlaces.{firsts_file}
use Rattle.dae_parse_grammar.specs.Frames.{ParserState}
use Rattle.dae_parse_grammar.specs.Machine.{begun, ended, onto, step}
use Rattle.dae_parse_grammar.specs.Measure.{measure}
use Rattle.dae_parse_grammar.specs.Runs.{run}
use Rattle.dae_parse_grammar.specs.Standing.{Holds}
use Rattle.dae_parse_grammar.specs.Taken.{tokens_of}
use Rattle.dae_parse_grammar.specs.Stuck.{rest_of, stuck}
use Rattle.dae_parse_grammar.proofs.Local as local
use Rattle.dae_parse_grammar.proofs.Runs as runs
use Rattle.dae_parse_grammar.proofs.FirstPlaces as firsts
use Rattle.dae_parse_grammar.proofs.Lengths.{adds_external}
pub use Rattle.dae_parse_grammar.proofs.FirstPlaces.{or_else_along}

-- a run one step longer
pub run_next : (turns : ℕ) (s t : ParserState) → step (run turns s) ≡ Some t → run (suc turns) s ≡ t
run_next = runs.run_next

-- what is read stands
pub stands : (tokens : List TokenMark) (turns : ℕ) → Holds (run turns (begun tokens))
stands = runs.stands

-- no token is lost
pub run_keeps : (turns : ℕ) (s : ParserState) → tokens_of (run turns s) ≡ tokens_of s
run_keeps = runs.run_keeps

pub sound : (tokens : List TokenMark) (turns : ℕ) (before : List External) (names : Names) → run turns (begun tokens) ≡ ended before names → IsTreeOf tokens (onto before [])
sound = runs.sound

pub unique : (tokens : List TokenMark) (a b : List External) → IsTreeOf tokens a → IsTreeOf tokens b → a ≡ b
unique = runs.unique

pub stopped : (tokens : List TokenMark) (turns : ℕ) (s : ParserState) → run turns (begun tokens) ≡ s → step s ≡ None → (file : List External) → IsTreeOf tokens file
    → (names : Names) × (s ≡ ended (onto file []) names)
stopped = runs.stopped

-- where the machine is stuck at a token, no file begins with the tokens up to it
pub nothing_goes_on : (before : List TokenMark) (t : TokenMark) (rest : List TokenMark) (turns : ℕ) → step (run turns (begun (before ++ t ∷ rest))) ≡ None → stuck (run turns (begun (before ++ t ∷ rest))) ≡ t ∷ rest
    → (more : List TokenMark) (file : List External) → IsTreeOf (before ++ t ∷ more) file → ⊥
nothing_goes_on = local.nothing_goes_on

-- what is left is the end of the tokens
pub run_left : (turns : ℕ) (s : ParserState) → (taken : List TokenMark) × (rest_of s ≡ taken ++ rest_of (run turns s))
run_left = local.run_left

-- runs are short
pub bounded : (tokens : List TokenMark) (turns : ℕ) → 12 * length tokens + 9 ≤ turns → step (run turns (begun tokens)) ≡ None
bounded = runs.bounded

pub step_falls : (s t : ParserState) → step s ≡ Some t → measure t < measure s
step_falls = runs.step_falls

-- the first node that is too deep is the first at the depth behind the limit
pub first_deep : (file : List External) (limit : ℕ) → first_deeper limit (nodes_file file) ≡ firsts_file file limit
first_deep = firsts.says_file

-- an external spells as many tokens before others as alone
pub length_adds : (x : External) (rest : List TokenMark) → length (spell_external x rest) ≡ length (spell_external x []) + length rest
length_adds x rest = (adds_external x).law rest

onto_more : {A : Type 0} (before xs ys : List A) → onto before (xs ++ ys) ≡ onto before xs ++ ys
onto_more [] xs ys = refl
onto_more (a ∷ before) xs ys = onto_more before (a ∷ xs) ys

-- the latest of a list is its last
pub onto_last : {A : Type 0} (before : List A) (a : A) → onto (a ∷ before) [] ≡ onto before [] ++ a ∷ []
onto_last before a = onto_more before [] (a ∷ [])
