-- The first line of a script, and the commands so far.
use Rattle.std.proofs.Common.{◌≡◌, ◌≢◌, ℕ, zero, suc, ◌+◌, ◌<◌, Bool, true, false, nat_eq, List, ◌∷◌, ◌++◌, length, take, drop, get_or, refl, ap, ◌∙◌, subst, append-nil, arith, []}
use Rattle.std.specs.Prelude.{if◌then◌else◌, Option}
use Rattle.std.proofs.lemmas.Bool.Decides.{nat_tests}
use Rattle.dae_debug_commands.specs.declared.DebugCommand.{DebugCommand}
use Rattle.dae_debug_commands.specs.Scripts.{AreRead, in_front, lines_of}

no_feed : (byte : ℕ) → byte ≢ 10 → nat_eq byte 10 ≡ false
no_feed byte h = grind (arith, nat_tests)

lines_by : (byte : ℕ) (bytes : List ℕ) (b : Bool) → nat_eq byte 10 ≡ b → lines_of (byte ∷ bytes) ≡ (if b then [] ∷ lines_of bytes else in_front byte (lines_of bytes))
lines_by byte bytes b e = rw e refl

-- up to a line feed
pub line_at : (bytes : List ℕ) (at : ℕ) → at < length bytes → get_or bytes at 0 ≡ 10 → ((k : ℕ) → k < at → get_or bytes k 0 ≢ 10)
    → lines_of bytes ≡ take at bytes ∷ lines_of (drop (at + 1) bytes)
line_at [] at lt is before = absurd (omega arith)
line_at (byte ∷ bytes) zero lt is before = lines_by byte bytes true (ap (λ (b : ℕ). nat_eq b 10) is)
line_at (byte ∷ bytes) (suc at) lt is before =
    let later = line_at bytes at (omega arith) is (λ k l. before (suc k) (omega arith)) in
    let add : suc (at + 1) ≡ suc at + 1 = omega arith in
    lines_by byte bytes false (no_feed byte (before 0 (omega arith))) ∙ ap (in_front byte) later
    ∙ ap (λ (n : ℕ). (byte ∷ take at bytes) ∷ lines_of (drop n (byte ∷ bytes))) add

-- where there is no line feed
pub line_whole : (bytes : List ℕ) → bytes ≢ [] → ((k : ℕ) → k < length bytes → get_or bytes k 0 ≢ 10) → lines_of bytes ≡ bytes ∷ lines_of []
line_whole [] some none = absurd (some refl)
line_whole (byte ∷ []) some none = lines_by byte [] false (no_feed byte (none 0 (omega arith)))
line_whole (byte ∷ (next ∷ bytes)) some none =
    let later = line_whole (next ∷ bytes) (λ e. cc) (λ k l. none (suc k) (omega arith)) in
    lines_by byte (next ∷ bytes) false (no_feed byte (none 0 (omega arith))) ∙ ap (in_front byte) later

-- ---- the commands so far: what is read of the lines that are left is behind them

abbrev pub ReadSoFar : (script rest : List ℕ) → List (Option DebugCommand) → Type 0
ReadSoFar script rest done =
    (more : List (Option DebugCommand)) → AreRead (lines_of rest) more → AreRead (lines_of script) (done ++ more)

pub read_all : (script rest : List ℕ) (done : List (Option DebugCommand)) → ReadSoFar script rest done → rest ≡ [] → AreRead (lines_of script) done
read_all script rest done way none =
    let nothing : AreRead (lines_of rest) [] = rw none tt in
    subst (λ (l : List (Option DebugCommand)). AreRead (lines_of script) l) (append-nil done) (way [] nothing)
