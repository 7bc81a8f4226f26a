-- The items that the rows of a listing say.
use Rattle.std.proofs.Common.{◌≡◌, ℕ, ◌<◌, ◌≤◌, ◌^◌, ℤ, pos, true, List, [], ◌∷◌, ◌++◌, map, length, codes, refl, sym, ap, ◌∙◌, subst, arith}
use Rattle.std.specs.Prelude.{Option, Some, None}
use Rattle.std.specs.List.{list_all}
use Rattle.dae_base.specs.declared.Side.{Side}
use Rattle.dae_base.specs.declared.Side.TheVariants.{A, E}
use Rattle.dae_encode.specs.declared.Inst.{Inst}
use Rattle.dae_encode.specs.Spelling.{InRange, decode}
use Rattle.dae_encode.proofs.Laws.{encoded_decode}
use Rattle.dae_asm_lines.specs.Names.{name_of, operands_of, AreAlike}
use Rattle.dae_asm_lines.specs.declared.Operands.{Operands}
use Rattle.dae_asm_lines.specs.declared.Operands.TheVariants.{Registers, Immediate, Based, Branch, Upper, Jump, Alone}
use Rattle.dae_asm_lines.specs.Targets.{Given}
use Rattle.dae_asm_lines.specs.Items as items
use Rattle.dae_asm_lines.specs.Items.{LineItem, Says, beginning, letter}
use Rattle.dae_asm_lines.specs.Tokens.{LineToken, Word, Number, is_blank, is_sign, token_of, tokens_of}
use Rattle.dae_listing.specs.Canon.{row, spelled_operands, instruction_text, word_or_instruction}
use Rattle.dae_listing_laws.proofs.Digits.{is_plain}
use Rattle.dae_listing_laws.proofs.Words.{IsWord, word_blank}
use Rattle.dae_listing_laws.proofs.Known.{like_of, is_known}
use Rattle.dae_listing_laws.proofs.Small.{are_small}
use Rattle.dae_listing_laws.proofs.Rows.{AreFew, row_tokens, row_plain, plain_join, given, reads_operands}
use Rattle.dae_listing_laws.proofs.Lines.{Reads}

-- a word of a directive
record IsDirective (w : List ℕ) : Type 0 where
  pub word : IsWord w
  pub token : token_of w ≡ Word w
  pub plain : list_all is_plain w ≡ true

-- ---- words and numbers

said : (w ns : List ℕ) → IsDirective w → AreFew ns → tokens_of (row w ns) ≡ Word w ∷ map Number (map (λ n. pos n) ns)
said w ns d few = row_tokens w ns d.word few ∙ ap (λ (t : LineToken). t ∷ map Number (map (λ n. pos n) ns)) d.token

budget : IsDirective (codes ".budget")
unfolding is_blank is_sign
budget = record { word = record { some = omega arith; inner = refl }; token = refl; plain = refl }

memory : IsDirective (codes ".memory")
unfolding is_blank is_sign
memory = record { word = record { some = omega arith; inner = refl }; token = refl; plain = refl }

calls : IsDirective (codes ".calls")
unfolding is_blank is_sign
calls = record { word = record { some = omega arith; inner = refl }; token = refl; plain = refl }

private_bytes : IsDirective (codes ".private")
unfolding is_blank is_sign
private_bytes = record { word = record { some = omega arith; inner = refl }; token = refl; plain = refl }

entry : IsDirective (codes ".entry")
unfolding is_blank is_sign
entry = record { word = record { some = omega arith; inner = refl }; token = refl; plain = refl }

begin_a : IsDirective (codes ".a")
unfolding is_blank is_sign
begin_a = record { word = record { some = omega arith; inner = refl }; token = refl; plain = refl }

begin_e : IsDirective (codes ".e")
unfolding is_blank is_sign
begin_e = record { word = record { some = omega arith; inner = refl }; token = refl; plain = refl }

data_ : IsDirective (codes ".data")
unfolding is_blank is_sign
data_ = record { word = record { some = omega arith; inner = refl }; token = refl; plain = refl }

word : IsDirective (codes ".word")
unfolding is_blank is_sign
word = record { word = record { some = omega arith; inner = refl }; token = refl; plain = refl }

byte : IsDirective (codes ".byte")
unfolding is_blank is_sign
byte = record { word = record { some = omega arith; inner = refl }; token = refl; plain = refl }

line : IsDirective (codes ".line")
unfolding is_blank is_sign
line = record { word = record { some = omega arith; inner = refl }; token = refl; plain = refl }

name : IsDirective (codes ".name")
unfolding is_blank is_sign
name = record { word = record { some = omega arith; inner = refl }; token = refl; plain = refl }

letter_word : (side : Side) → IsDirective (letter side)
unfolding is_blank is_sign
letter_word A = record { word = record { some = omega arith; inner = refl }; token = refl; plain = refl }
letter_word E = record { word = record { some = omega arith; inner = refl }; token = refl; plain = refl }

as_many : (ns : List ℕ) → length (map (λ n. pos n) ns) ≡ length ns
as_many [] = refl
as_many (n ∷ ns) = let more = as_many ns in omega arith

pub budget_reads : (ns : List ℕ) → length ns ≡ 7 → AreFew ns → Reads (row (codes ".budget") ns) (items.Budget (map (λ n. pos n) ns))
budget_reads ns seven few = record { plain = row_plain (codes ".budget") ns budget.plain few; says = (said (codes ".budget") ns budget few, as_many ns ∙ seven) }

pub memory_reads : (n : ℕ) → n < 2 ^ 32 → Reads (row (codes ".memory") (n ∷ [])) (items.Memory (pos n))
memory_reads n h = record { plain = row_plain (codes ".memory") (n ∷ []) memory.plain (h, tt); says = said (codes ".memory") (n ∷ []) memory (h, tt) }

pub calls_reads : (n : ℕ) → n < 2 ^ 32 → Reads (row (codes ".calls") (n ∷ [])) (items.Calls (pos n))
calls_reads n h = record { plain = row_plain (codes ".calls") (n ∷ []) calls.plain (h, tt); says = said (codes ".calls") (n ∷ []) calls (h, tt) }

pub private_reads : (m n : ℕ) → m < 2 ^ 32 → n < 2 ^ 32 → Reads (row (codes ".private") (m ∷ n ∷ [])) (items.Private (pos m) (pos n))
private_reads m n h k = record { plain = row_plain (codes ".private") (m ∷ n ∷ []) private_bytes.plain (h, (k, tt)); says = said (codes ".private") (m ∷ n ∷ []) private_bytes (h, (k, tt)) }

pub entry_reads : (m n : ℕ) → m < 2 ^ 32 → n < 2 ^ 32 → Reads (row (codes ".entry") (m ∷ n ∷ [])) (items.Entry (Given (pos m)) (Given (pos n)))
entry_reads m n h k = record { plain = row_plain (codes ".entry") (m ∷ n ∷ []) entry.plain (h, (k, tt)); says = record { x = _; y = _; whole = said (codes ".entry") (m ∷ n ∷ []) entry (h, (k, tt)); one = refl; two = refl } }

pub a_reads : Reads (codes ".a") (items.Code A)
a_reads = record { plain = begin_a.plain; says = said (codes ".a") [] begin_a tt }

pub e_reads : Reads (codes ".e") (items.Code E)
e_reads = record { plain = begin_e.plain; says = said (codes ".e") [] begin_e tt }

pub data_reads : Reads (codes ".data") items.Data
data_reads = record { plain = data_.plain; says = said (codes ".data") [] data_ tt }

pub bytes_read : (bs : List ℕ) → 1 ≤ length bs → length bs ≤ 16 → AreFew bs → Reads (row (codes ".byte") bs) (items.Bytes (map (λ b. pos b) bs))
bytes_read bs some few small = record { plain = row_plain (codes ".byte") bs byte.plain small; says = (said (codes ".byte") bs byte small, rw (as_many bs) some, rw (as_many bs) few) }

pub name_reads : (bs : List ℕ) → AreFew bs → Reads (row (codes ".name") bs) (items.Name (map (λ b. pos b) bs))
name_reads bs small = record { plain = row_plain (codes ".name") bs name.plain small; says = said (codes ".name") bs name small }

-- ---- marks

side_row : (side : Side) (ns : List ℕ) → row (codes ".line " ++ letter side) ns ≡ codes ".line" ++ 32 ∷ row (letter side) ns
side_row A ns = refl
side_row E ns = refl

pub mark_reads : (side : Side) (w f l : ℕ) → w < 2 ^ 32 → f < 2 ^ 32 → l < 2 ^ 32 → Reads (row (codes ".line " ++ letter side) (w ∷ f ∷ l ∷ [])) (items.Mark side (pos w) (pos f) (pos l))
mark_reads side w f l h k m =
    let d = letter_word side in
    let ns : List ℕ = w ∷ f ∷ l ∷ [] in
    record {
      plain = ap (list_all is_plain) (side_row side ns) ∙ plain_join (codes ".line") (32 ∷ row (letter side) ns) refl (row_plain (letter side) ns d.plain (h, (k, (m, tt))));
      says = ap tokens_of (side_row side ns) ∙ word_blank (codes ".line") (row (letter side) ns) line.word ∙ ap (λ (ts : List LineToken). Word (codes ".line") ∷ ts) (said (letter side) ns d (h, (k, (m, tt))));
    }

-- ---- words of code

-- what a listing says of a word, by the instruction that it spells
abbrev pub item_for : ℕ → Option Inst → LineItem
item_for w (Some i) = items.Instruction (like_of i) (given (operands_of i))
item_for w None = items.Plain (pos w)

alike_given : (ps os : Operands ℤ) → AreAlike ps os → AreAlike ps (given os)
alike_given (Registers x y z) (Registers p q r) h = tt
alike_given (Immediate x y z) (Immediate p q r) h = tt
alike_given (Based x y z) (Based p q r) h = tt
alike_given (Branch x y z) (Branch p q r) h = tt
alike_given (Upper x y) (Upper p q) h = tt
alike_given (Jump x y) (Jump p q) h = tt
alike_given Alone Alone h = tt
alike_given _ _ h = absurd h

instruction_reads : (i : Inst) → InRange i → Reads (instruction_text i) (items.Instruction (like_of i) (given (operands_of i)))
instruction_reads i h =
    let k = is_known i in
    let n = name_of (like_of i) in
    let os = operands_of i in
    let o = reads_operands n os k.word (are_small i h) in
    let item : LineItem = items.Instruction (like_of i) (given os) in
    let P : List ℕ → Type 0 = λ w. Reads (w ++ spelled_operands os) item in
    subst P (sym k.name) (record {
      plain = plain_join n (spelled_operands os) k.plain o.plain;
      says = record { rest = o.rest; whole = o.tokens ∙ ap (λ (t : LineToken). t ∷ o.rest) k.token; known = k.known; alike = alike_given (operands_of (like_of i)) os k.alike; say = o.say };
    })

pub word_reads : (w : ℕ) (o : Option Inst) → w < 2 ^ 32 → decode w ≡ o → Reads (word_or_instruction w o) (item_for w o)
word_reads w (Some i) h e = instruction_reads i (encoded_decode w i h e).0
word_reads w None h e = record { plain = row_plain (codes ".word") (w ∷ []) word.plain (h, tt); says = said (codes ".word") (w ∷ []) word (h, tt) }
