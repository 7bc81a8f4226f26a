-- Plain lines: they have no comment, and a text of them, each with a line feed, has just these lines.
use Rattle.std.proofs.Common.{◌≡◌, ℕ, zero, suc, ◌<◌, Bool, true, false, not, ◌&&◌, ◌==◌, List, [], ◌∷◌, ◌++◌, refl, sym, ap, ◌∙◌, subst, append_assoc, arith}
use Rattle.std.specs.Prelude.{nat_lt, Some}
use Rattle.std.specs.List.{list_all, flat_map, AllByRecursion}
use Rattle.std.specs.Str.{IsAscii}
use Rattle.std.proofs.lemmas.Bool.{and_parts}
use Rattle.std.proofs.lemmas.Bool.Decides.{nat_tests}
use Rattle.std.proofs.lemmas.List.{append-nil}
use Rattle.dae_asm_lines.specs.Items.{LineItem, Says}
use Rattle.dae_asm_lines.specs.Lines as lines
use Rattle.dae_asm_lines.specs.Lines.{IsLine}
use Rattle.dae_asm_lines.specs.Tokens.{before_comment, tokens_of}
use Rattle.dae_asm_order.specs.Sheets.{lines_behind, lines_of}
use Rattle.dae_listing.specs.Canon.{ended}
use Rattle.dae_listing_laws.proofs.Digits.{is_plain}

is_false : (t : Bool) → not t ≡ true → t ≡ false
is_false true e = absurd cc
is_false false e = refl

-- what a plain byte is not
record Plain (b : ℕ) : Type 0 where
  pub ascii : nat_lt b 128 ≡ true
  pub semicolon : (b == 59) ≡ false
  pub feed : (b == 10) ≡ false

plain : (b : ℕ) → is_plain b ≡ true → Plain b
plain b h =
    let p = and_parts (nat_lt b 128) (not (b == 59) && not (b == 10)) h in
    let q = and_parts (not (b == 59)) (not (b == 10)) p.1 in
    record { ascii = p.0; semicolon = is_false (b == 59) q.0; feed = is_false (b == 10) q.1 }

no_comment : (line : List ℕ) → list_all is_plain line ≡ true → before_comment line ≡ line
no_comment [] h = refl
no_comment (b ∷ bs) h =
    let parts = and_parts (is_plain b) (list_all is_plain bs) h in
    let p = plain b parts.0 in
    let e = p.semicolon in
    rw e (ap (λ (rest : List ℕ). b ∷ rest) (no_comment bs parts.1))

below : (b : ℕ) → nat_lt b 128 ≡ true → b < 128
below b e = grind (arith, nat_tests)

are_ascii : (line : List ℕ) → list_all is_plain line ≡ true → IsAscii line
are_ascii [] h i = omega arith
are_ascii (b ∷ bs) h zero = let parts = and_parts (is_plain b) (list_all is_plain bs) h in let p = plain b parts.0 in below b p.ascii
are_ascii (b ∷ bs) h (suc i) = let parts = and_parts (is_plain b) (list_all is_plain bs) h in are_ascii bs parts.1 i

-- a plain line that says an item
pub record Reads (line : List ℕ) (item : LineItem) : Type 0 where
  pub plain : list_all is_plain line ≡ true
  pub says : Says (tokens_of line) item

pub is_line : (line : List ℕ) (item : LineItem) → Reads line item → IsLine line (Some item)
is_line line item h = lines.says item (are_ascii line h.plain) (subst (λ (l : List ℕ). Says (tokens_of l) item) (sym (no_comment line h.plain)) h.says)

-- ---- texts

feed : (w line rest : List ℕ) → list_all is_plain line ≡ true → lines_behind w (line ++ 10 ∷ rest) ≡ (w ++ line) ∷ lines_behind [] rest
feed w [] rest h = ap (λ (l : List ℕ). l ∷ lines_behind [] rest) (sym (append-nil w))
feed w (b ∷ bs) rest h =
    let parts = and_parts (is_plain b) (list_all is_plain bs) h in
    let p = plain b parts.0 in
    let e = p.feed in
    rw e (feed (w ++ b ∷ []) bs rest parts.1 ∙ ap (λ (l : List ℕ). l ∷ lines_behind [] rest) (append_assoc w (b ∷ []) bs))

pub text_lines : (text : List (List ℕ)) → AllByRecursion (λ line. list_all is_plain line ≡ true) text → lines_of (flat_map ended text) ≡ text
unfolding lines_of
text_lines [] h = refl
text_lines (line ∷ text) h =
    ap (λ (bytes : List ℕ). lines_behind [] bytes) (append_assoc line (10 ∷ []) (flat_map ended text))
    ∙ feed [] line (flat_map ended text) h.0
    ∙ ap (λ (ls : List (List ℕ)). line ∷ ls) (text_lines text h.1)
