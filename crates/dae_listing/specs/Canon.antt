-- The listing of an image: a line an item, with one blank between numbers and behind words, no labels
-- and no comments.
use Rattle.std.specs.Prelude.{ℕ, ℤ, List, [], ◌∷◌, ◌++◌, map, codes, Option, Some, None, decimal}
use Rattle.std.specs.Fmt.{signed_decimal}
use Rattle.std.specs.List.{flat_map}
use Rattle.dae_base.specs.declared.Depths.{Depths}
use Rattle.dae_encode.specs.declared.Inst.{Inst}
use Rattle.dae_encode.specs.Spelling.{decode}
use Rattle.dae_image.specs.declared.LineMark.{LineMark}
use Rattle.dae_image.specs.Contents.{ImageContents}
use Rattle.dae_asm_lines.specs.declared.Operands.{Operands}
use Rattle.dae_asm_lines.specs.declared.Operands.TheVariants.{Registers, Immediate, Based, Branch, Upper, Jump, Alone}
use Rattle.dae_asm_lines.specs.Names.{name_of, operands_of}
use Rattle.dae_asm_lines.specs.Items.{letter}

-- a word and numbers, each behind a blank
abbrev pub row : List ℕ → List ℕ → List ℕ
row word numbers = word ++ flat_map (λ n. 32 ∷ decimal n) numbers

abbrev pub register_text : ℤ → List ℕ
register_text r = 120 ∷ signed_decimal r

-- operands behind a blank, with commas between
abbrev pub spelled_operands : Operands ℤ → List ℕ
spelled_operands (Registers a b c) =
    32 ∷ (register_text a ++ (44 ∷ (register_text b ++ (44 ∷ register_text c))))
spelled_operands (Immediate a b n) =
    32 ∷ (register_text a ++ (44 ∷ (register_text b ++ (44 ∷ signed_decimal n))))
spelled_operands (Based a n b) =
    32 ∷ (register_text a ++ (44 ∷ (signed_decimal n ++ (40 ∷ (register_text b ++ 41 ∷ [])))))
spelled_operands (Branch a b n) =
    32 ∷ (register_text a ++ (44 ∷ (register_text b ++ (44 ∷ signed_decimal n))))
spelled_operands (Upper a n) = 32 ∷ (register_text a ++ (44 ∷ signed_decimal n))
spelled_operands (Jump a n) = 32 ∷ (register_text a ++ (44 ∷ signed_decimal n))
spelled_operands Alone = []

abbrev pub instruction_text : Inst → List ℕ
instruction_text i = name_of i ++ spelled_operands (operands_of i)

abbrev pub word_or_instruction : ℕ → Option Inst → List ℕ
word_or_instruction w (Some i) = instruction_text i
word_or_instruction w None = row (codes ".word") (w ∷ [])

-- a word of a code: the instruction that it spells, if it spells one
unfoldable pub word_text : ℕ → List ℕ
word_text w = word_or_instruction w (decode w)

abbrev pub seven_depths : Depths → List ℕ
seven_depths d = d.ld ∷ d.al ∷ d.sa ∷ d.sd ∷ d.ab ∷ d.eb ∷ d.cq ∷ []

abbrev pub head_rows : ImageContents → List (List ℕ)
head_rows c =
    row (codes ".budget") (seven_depths c.budget) ∷ row (codes ".memory") (c.memory ∷ [])
    ∷ row (codes ".calls") (c.calls ∷ []) ∷ row (codes ".private") (c.private_a ∷ c.private_e ∷ [])
    ∷ row (codes ".entry") (c.entry_a ∷ c.entry_e ∷ []) ∷ []

abbrev pub byte_row : List ℕ → List ℕ
byte_row bytes = row (codes ".byte") bytes

-- lists of sixteen, and what is left
abbrev pub content_rows : List ℕ → List (List ℕ)
content_rows (a ∷ b ∷ c ∷ d ∷ e ∷ f ∷ g ∷ h ∷ i ∷ j ∷ k ∷ l ∷ m ∷ n ∷ o ∷ p ∷ bytes) =
    byte_row (a ∷ b ∷ c ∷ d ∷ e ∷ f ∷ g ∷ h ∷ i ∷ j ∷ k ∷ l ∷ m ∷ n ∷ o ∷ p ∷ []) ∷ content_rows bytes
content_rows [] = []
content_rows bytes = byte_row bytes ∷ []

abbrev pub mark_row : LineMark → List ℕ
mark_row m = row (codes ".line " ++ letter m.side) (m.word ∷ m.file ∷ m.line ∷ [])

abbrev pub rows : ImageContents → List (List ℕ)
rows c =
    head_rows c ++ (codes ".a" ∷ (map word_text c.code_a ++ (codes ".e" ∷ (map word_text c.code_e
    ++ (codes ".data" ∷ (content_rows c.content
    ++ (map mark_row c.lines ++ map (row (codes ".name")) c.names)))))))

-- a line with its line feed
abbrev pub ended : List ℕ → List ℕ
ended line = line ++ 10 ∷ []

unfoldable pub canon : ImageContents → List ℕ
canon c = flat_map ended (rows c)
