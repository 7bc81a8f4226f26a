-- What a row of code says.
use Rattle.std.proofs.Common.{◌≡◌, ℕ, ℤ, ◌+◌, ◌<◌, List, [], ◌∷◌, ◌++◌, length, drop, get_or, Option, Some, None, IfSome, IfNone, refl, subst}
use Rattle.dae_encode.specs.declared.Inst.{Inst}
use Rattle.dae_encode.specs.Spelling.{encoded}
use Rattle.dae_asm_lines.specs.declared.Operands.{Operands}
use Rattle.dae_asm_lines.specs.Targets.{JumpTarget}
use Rattle.dae_asm_lines.specs.Items as items
use Rattle.dae_asm_order.specs.Sheets.{Row}
use Rattle.dae_asm_sheet.specs.declared.rows.Row as code
use Rattle.dae_asm_sheet.specs.Rows.{row_seen, rows_seen}
use Rattle.dae_asm_labels.specs.Labels.{Look}
use Rattle.dae_asm_values.specs.Values.{IsWord, IsInstruction}
use Rattle.dae_asm_values.specs.Claims.{Spells, Does, IsSaid, said_of, SaysNothing, SaysWord}
use Rattle.dae_asm_values.proofs.Walked.{Walk, rows_from, passed, stepped}

pub plain_says : (labels : Look) (here n : ℕ) (z : ℤ) (found : Option ℕ) → IfSome found (λ w. IsWord z w) → IfNone found ((w : ℕ) → IsWord z w → ⊥) → IsSaid labels here (n, items.Plain z) (said_of found)
plain_says labels here n z None some none = record { its = Spells z; claim = refl; unmet = none }
plain_says labels here n z (Some w) some none = record { its = Spells z; claim = refl; meets = some; one = λ rows. refl }

pub instruction_says : (labels : Look) (here n : ℕ) (like : Inst) (o : Operands JumpTarget) (found : Option ℕ) → IfSome found (λ w. (i : Inst) × ((w ≡ encoded i) × IsInstruction labels here like o i)) → IfNone found ((i : Inst) → IsInstruction labels here like o i → ⊥) → IsSaid labels here (n, items.Instruction like o) (said_of found)
instruction_says labels here n like o None some none = record { its = Does labels here like o; claim = refl; unmet = λ w m. none m.0 m.1.1 }
instruction_says labels here n like o (Some w) some none = record { its = Does labels here like o; claim = refl; meets = some; one = λ rows. refl }

-- ---- the step of the walk

pub moved : (labels : Look) (all rest : List Row) (here there : ℕ) (code more : List ℕ) → here ≡ there → code ≡ more → Walk labels all rest there more → Walk labels all rest here code
moved labels all rest here there code more e f w = rw (e, f) w

pub go_past : (labels : Look) (rows : List code.Row) (i : ℕ) (d : code.Row) (here : ℕ) (words : List ℕ) → i < length rows → Walk labels (rows_seen rows) (rows_seen (drop i rows)) here words → SaysNothing labels here (row_seen (get_or rows i d)) → Walk labels (rows_seen rows) (rows_seen (drop (i + 1) rows)) here words
go_past labels rows i d here words within w s =
    let here_is = rows_from rows i d within in
    passed labels (rows_seen rows) (row_seen (get_or rows i d)) (rows_seen (drop (i + 1) rows)) here words (subst (λ (rest : List Row). Walk labels (rows_seen rows) rest here words) here_is w) s

pub go_on : (labels : Look) (rows : List code.Row) (i : ℕ) (d : code.Row) (here : ℕ) (words : List ℕ) (word : ℕ) → i < length rows → Walk labels (rows_seen rows) (rows_seen (drop i rows)) here words → SaysWord labels here (row_seen (get_or rows i d)) word → Walk labels (rows_seen rows) (rows_seen (drop (i + 1) rows)) (here + 4) (words ++ (word ∷ []))
go_on labels rows i d here words word within w s =
    let here_is = rows_from rows i d within in
    stepped labels (rows_seen rows) (row_seen (get_or rows i d)) (rows_seen (drop (i + 1) rows)) here words word (subst (λ (rest : List Row). Walk labels (rows_seen rows) rest here words) here_is w) s
