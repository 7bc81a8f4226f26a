-- What a printf prints weighs no more than its format and its arguments pay.
use Rattle.std.proofs.Common.{◌≡◌, ℕ, suc, ◌+◌, ◌*◌, ◌≤◌, Bool, true, false, List, [], ◌∷◌, length, Option, Some, None, Ok, Err, if◌then◌else◌, refl, subst, arith}
use Rattle.std.proofs.lemmas.Bool.Decides.{nat_tests}
use Rattle.std.specs.Prelude.{IfOk, IfSome, nat_eq, not}
use Rattle.dae_base.specs.declared.Place.{Place}
use Rattle.dae_tree.specs.Trees as tree
use Rattle.dae_tree.specs.Trees.{Expression, Expressions}
use Rattle.dae_tree.specs.Depth.{place_of}
use Rattle.dae_meaning.specs.declared.Spelling.{Spelling}
use Rattle.dae_meaning.specs.declared.Spelling.TheVariants as spelling
use Rattle.dae_program.specs.declared.statements.FormatPiece.{FormatPiece}
use Rattle.dae_program.specs.declared.statements.FormatPiece.TheVariants as piece
use Rattle.dae_program.specs.Trees as program
use Rattle.dae_types_kinds.specs.Types.{word_for}
use Rattle.dae_types_kinds.specs.declared.rules.Breach.{Breach}
use Rattle.dae_types_kinds.specs.declared.rules.Rule.TheVariants as rule
use Rattle.dae_types_kinds.specs.Tables.{Tables}
use Rattle.dae_types_rules.specs.Sites.{AtFormat}
use Rattle.dae_types_rules.specs.Plan.{ask_all}
use Rattle.dae_types_plans.specs.Steps.{count_of}
use Rattle.dae_types_file_plans.specs.Initialisers.{literal_in, literal_bytes}
use Rattle.dae_types_file_plans.specs.Formats.{ConversionPart, InText, BehindPercent, BehindLong, with_piece, number_piece, letter_piece, converted_with, pieces_from, letters}
use Rattle.dae_types_file_plans.specs.Statements.{format_of, wanted_by, pieces_or, format_at, plan_printed, listed_all, plan_printf, arguments_of}
use Rattle.dae_sizes.specs.Worth.{worth, worth_of_all, worth_of_more, declares, declares_in_all}
use Rattle.dae_sizes.specs.Weights.{weight_of_all, weight_of_pieces, weight_in}
use Rattle.dae_sizes.specs.Paid.{for_each, price}
use Rattle.dae_sizes.proofs.Within.{Got, Within, stays, weaker, lighter, pure_within, node_reads, maps_reads, asks_within, chain_within}
use Rattle.dae_sizes.proofs.Weighing.{cost, weight_of_list, weight-append}
use Rattle.dae_sizes.proofs.Expressions.{value_of_within}
use Rattle.dae_sizes.proofs.Initialisers.{text_in, text_is, literal_pays}

-- ---- the pieces of a format: bytes of its own for its bytes, and 4 for each argument that it wants

abbrev Paid : ℕ → List ℕ → Option (List FormatPiece) → Type 0
Paid c bs o = IfSome o (λ ps. weight_of_pieces c ps ≤ for_each c bs + 4 * length (letters ps))

piece_paid : (c b x : ℕ) (bs : List ℕ) (o : Option (List FormatPiece)) → Paid c bs o → Paid c (b ∷ bs) (with_piece (piece.Byte x) o)
piece_paid c b x bs None h = h
piece_paid c b x bs (Some ps) h = omega (arith, h)

more_paid : (c b : ℕ) (bs : List ℕ) (o : Option (List FormatPiece)) → Paid c bs o → Paid c (b ∷ bs) o
more_paid c b bs None h = h
more_paid c b bs (Some ps) h = omega (arith, h)

-- a conversion of an argument
IsConversion : Option FormatPiece → Type 0
IsConversion None = Unit {0}
IsConversion (Some (piece.Byte b)) = ⊥
IsConversion (Some (piece.Word s k)) = Unit {0}
IsConversion (Some (piece.String k)) = Unit {0}

conversion_paid : (c b : ℕ) (bs : List ℕ) (x : Option FormatPiece) (o : Option (List FormatPiece)) → IsConversion x → Paid c bs o → Paid c (b ∷ bs) (converted_with x o)
unfolding IsConversion
conversion_paid c b bs None o i h = tt
conversion_paid c b bs (Some (piece.Byte y)) o i h = absurd i
conversion_paid c b bs (Some (piece.Word s k)) None i h = tt
conversion_paid c b bs (Some (piece.Word s k)) (Some ps) i h = omega (arith, h)
conversion_paid c b bs (Some (piece.String k)) None i h = tt
conversion_paid c b bs (Some (piece.String k)) (Some ps) i h = omega (arith, h)

conversion_if : (b : Bool) (x y : Option FormatPiece) → IsConversion x → IsConversion y → IsConversion (if b then x else y)
conversion_if true x y h k = h
conversion_if false x y h k = k

word_converts : (s : Spelling) (k : ℕ) → IsConversion (Some (piece.Word s k))
unfolding IsConversion
word_converts s k = tt

string_converts : (k : ℕ) → IsConversion (Some (piece.String k))
unfolding IsConversion
string_converts k = tt

none_converts : IsConversion None
unfolding IsConversion
none_converts = tt

number_converts : (k b : ℕ) → IsConversion (number_piece k b)
number_converts k b =
    conversion_if (nat_eq b 100) _ _ (word_converts spelling.Signed k)
    (conversion_if (nat_eq b 105) _ _ (word_converts spelling.Signed k)
    (conversion_if (nat_eq b 117) _ _ (word_converts spelling.Unsigned k) (conversion_if (nat_eq b 120) _ _ (word_converts spelling.Hexadecimal k) none_converts)))

letter_converts : (k b : ℕ) → IsConversion (letter_piece k b)
letter_converts k b = conversion_if (nat_eq b 99) _ _ (word_converts spelling.Byte k) (conversion_if (nat_eq b 115) _ _ (string_converts k) (number_converts k b))

paid_if : (c : ℕ) (bs : List ℕ) (b : Bool) (x y : Option (List FormatPiece)) → Paid c bs x → Paid c bs y → Paid c bs (if b then x else y)
paid_if c bs true x y h k = h
paid_if c bs false x y h k = k

pieces_paid : (c : ℕ) (part : ConversionPart) (k : ℕ) (bs : List ℕ) → Paid c bs (pieces_from part k bs)
pieces_paid c InText k [] = omega arith
pieces_paid c BehindPercent k [] = tt
pieces_paid c BehindLong k [] = tt
pieces_paid c InText k (b ∷ bs) =
    let text = with_piece (piece.Byte b) (pieces_from InText k bs) in
    paid_if c (b ∷ bs) (nat_eq b 0) None (if nat_eq b 37 then pieces_from BehindPercent k bs else text) tt
    (paid_if c (b ∷ bs) (nat_eq b 37) (pieces_from BehindPercent k bs) text (more_paid c b bs (pieces_from BehindPercent k bs) (pieces_paid c BehindPercent k bs)) (piece_paid c b b bs (pieces_from InText k bs) (pieces_paid c InText k bs)))
pieces_paid c BehindPercent k (b ∷ bs) =
    let letter = converted_with (letter_piece k b) (pieces_from InText (word_for (suc k)) bs) in
    let percent = with_piece (piece.Byte 37) (pieces_from InText k bs) in
    paid_if c (b ∷ bs) (nat_eq b 37) percent (if nat_eq b 108 then pieces_from BehindLong k bs else letter) (piece_paid c b 37 bs (pieces_from InText k bs) (pieces_paid c InText k bs))
    (paid_if c (b ∷ bs) (nat_eq b 108) (pieces_from BehindLong k bs) letter (more_paid c b bs (pieces_from BehindLong k bs) (pieces_paid c BehindLong k bs)) (conversion_paid c b bs (letter_piece k b) (pieces_from InText (word_for (suc k)) bs) (letter_converts k b) (pieces_paid c InText (word_for (suc k)) bs)))
pieces_paid c BehindLong k (b ∷ bs) = conversion_paid c b bs (number_piece k b) (pieces_from InText (word_for (suc k)) bs) (number_converts k b) (pieces_paid c InText (word_for (suc k)) bs)

-- ---- a format has as many arguments as it wants, or its rule is broken

pub asked_by : (b : Bool) (p : Place) (s : Tables) (ps : List FormatPiece) (Q : Tables × List FormatPiece → Type 0) → (b ≡ true → Q (s, ps)) →
    IfOk {T = Tables × List FormatPiece} {E = Breach} (elim (not b) [ true ↦ Err (record { rule = rule.BadFormat; place = p }) | false ↦ Ok (s, ps) ]) Q
asked_by true p s ps Q h = h refl
asked_by false p s ps Q h = tt

format_asked : (c : ℕ) (p : Place) (o : Option (List FormatPiece)) (bs : List ℕ) (given : ℕ) (s : Tables) → Paid c bs o → IfOk (ask_all (AtFormat p (wanted_by o) given ∷ []) (Ok (s, pieces_or o))) (Got (weight_of_pieces c) 0 (for_each c bs + 4 * given) s)
unfolding ask_all
format_asked c p None bs given s h = tt
format_asked c p (Some ps) bs given s h = asked_by (nat_eq (length (letters ps)) given) p s ps (Got (weight_of_pieces c) 0 (for_each c bs + 4 * given) s)
    (λ e. let k : length (letters ps) ≡ given = grind (arith, nat_tests) in record { grown = stays 0; small = omega (arith, h, k) })

format_paid : (c : ℕ) (ls : List (List ℕ)) (s : Tables) (n : Option ℕ) → s.literals ≡ ls → Paid c (text_in ls n) (format_of s n)
format_paid c ls s None e = tt
format_paid c ls s (Some n) e = subst (λ (bs : List ℕ). Paid c bs (format_of s (Some n))) (text_is s ls (Some n) e) (pieces_paid c InText 0 (literal_bytes s (Some n)))

-- arguments without their commas
abbrev worth_inside : (price : ℕ → ℕ) → Expressions → ℕ
worth_inside price tree.no_expressions = 0
worth_inside price (tree.expression_then a xs) = worth price a + worth_inside price xs

inside_and_commas : (price : ℕ → ℕ) (xs : Expressions) → worth_inside price xs + 4 * count_of xs ≤ worth_of_more price xs
inside_and_commas price tree.no_expressions = omega arith
inside_and_commas price (tree.expression_then a xs) = let h = inside_and_commas price xs in omega (arith, h)

listed_all_weighs : (c : ℕ) (es : List program.Expression) → weight_of_all c (listed_all es) ≡ weight_of_list c es
listed_all_weighs c [] = refl
listed_all_weighs c (e ∷ es) = let h = listed_all_weighs c es in omega (arith, h)

pub arguments_worth : (price : ℕ → ℕ) (e : Expression) → worth_of_all price (arguments_of e) ≤ worth price e
arguments_worth price (tree.Call f p xs) = omega arith
arguments_worth price e = omega arith

pub arguments_declare : (e : Expression) → declares_in_all (arguments_of e) ≤ declares e
arguments_declare (tree.Call f p xs) = omega arith
arguments_declare e = omega arith

module _ (c : ℕ) (low : c ≤ 1) (ls : List (List ℕ)) where
  pub format_within : (p : Place) (n : Option ℕ) (given : ℕ) → Within ls (weight_of_pieces c) 0 (for_each c (text_in ls n) + 4 * given) (format_at p n given)
  format_within p n given = record { comes = λ s e. format_asked c p (format_of s n) (text_in ls n) given s (format_paid c ls s n e) }

  pub printed_within : (texts : List Bool) (i : ℕ) (done : List program.Expression) (es : Expressions) → Within ls (weight_of_list c) (declares_in_all es) (weight_of_list c done + worth_inside (price c ls) es) (plan_printed texts i done es)
  printed_within texts i done tree.no_expressions = pure_within done (omega arith)
  printed_within texts i done (tree.expression_then e es) =
      chain_within (node_reads {μ = cost c 2} {ν = weight_of_list c} {v = weight_of_list c done + worth (price c ls) e} (value_of_within c low ls e) (λ s x q l. let h = weight-append c done (x.tree ∷ []) in omega (arith, l, h)))
      (λ more l. lighter (omega (arith, l)) (printed_within texts (suc i) more es))

  pub printf_within : (p : Place) (es : Expressions) → Within ls (weight_in c) (declares_in_all es) (1 + worth_of_all (price c ls) es) (plan_printf p es)
  printf_within p tree.no_expressions = asks_within (pure_within program.Done (omega arith))
  printf_within p (tree.expression_then e es) =
      weaker {w = 1 + worth_of_all (price c ls) (tree.expression_then e es)} (omega arith) (omega arith) (chain_within (format_within (place_of e) (literal_in e) (count_of es))
      (λ ps l. maps_reads (printed_within (letters ps) 0 [] es) (λ s xs q k.
      let h = listed_all_weighs c xs in
      let g = inside_and_commas (price c ls) es in
      let j = literal_pays c ls e in omega (arith, l, k, h, g, j))))
