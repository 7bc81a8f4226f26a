-- What the machine reads, on texts that are short enough to see.
use Rattle.std.proofs.Common.{◌≡◌, ℕ, true, false, List, [], ◌∷◌, Some, None, refl}
use Rattle.dae_base.specs.declared.Place.{Place}
use Rattle.dae_tree.specs.declared.words.Keyword.TheVariants as keywords
use Rattle.dae_tree.specs.declared.signs.Sign.TheVariants as signs
use Rattle.dae_tree.specs.declared.expressions.Name.{Name}
use Rattle.dae_tree.specs.declared.operators.BinaryOperator.TheVariants as binary
use Rattle.dae_tree.specs.Marks.{TokenMark, word, sign, name, part, close_paren, close_brace}
use Rattle.dae_tree.specs.Trees.{External, Declared, Defined, Identifier, Binary, Parenthesised, Cast, Return, Value, Word, TypeName, Absent, Named, Void, no_specifiers, specifier_then, no_statements, statement_then}
use Rattle.dae_tree.specs.Depth.{nodes_file, first_deeper}
use Rattle.dae_parse_grammar.specs.Frames.{state, externals}
use Rattle.dae_parse_grammar.specs.Machine.{begun, ended, step}
use Rattle.dae_parse_grammar.specs.Runs.{run}

abbrev at : ℕ → Place
at c = record { file = 0; line = 1; col = c }

abbrev called : ℕ → ℕ → Name
called c n = record { place = at c; number = n }

-- int f(void){return a-b-c*(d);}
abbrev sums : List TokenMark
sums =
    word keywords.Int (at 1) ∷ name (called 5 0) ∷ sign signs.LeftParen (at 6) ∷ word keywords.Void (at 7) ∷ part close_paren ∷ sign signs.LeftBrace (at 12)
    ∷ word keywords.Return (at 13) ∷ name (called 20 1) ∷ sign signs.Minus (at 21) ∷ name (called 22 2) ∷ sign signs.Minus (at 23) ∷ name (called 24 3)
    ∷ sign signs.Times (at 25) ∷ sign signs.LeftParen (at 26) ∷ name (called 27 4) ∷ part close_paren ∷ sign signs.Semicolon (at 29) ∷ part close_brace ∷ []

abbrev sums_tree : External
sums_tree =
    Defined (specifier_then (Word (at 1) keywords.Int) no_specifiers) (Void (Named (called 5 0)) (at 6) (at 7)) (at 12) []
    (statement_then
    (Return (at 13)
    (Some
    (Binary (Binary (Identifier (called 20 1)) (at 21) binary.Subtract (Identifier (called 22 2))) (at 23) binary.Subtract
    (Binary (Identifier (called 24 3)) (at 25) binary.Multiply (Parenthesised (at 26) (Identifier (called 27 4))))))
    (at 29))
    no_statements)

sums_are_read : run 225 (begun sums) ≡ ended (sums_tree ∷ []) ((0, false) ∷ [])
sums_are_read = refl

-- its greatest depth is 7, and the first node so deep is the `d` in parentheses
sums_are_deep : first_deeper 6 (nodes_file (sums_tree ∷ [])) ≡ Some (at 27)
sums_are_deep = refl

sums_are_no_deeper : first_deeper 7 (nodes_file (sums_tree ∷ [])) ≡ None
sums_are_no_deeper = refl

-- typedef int t;t x=(t)y;
abbrev typed : List TokenMark
typed =
    word keywords.Typedef (at 1) ∷ word keywords.Int (at 9) ∷ name (called 13 0) ∷ sign signs.Semicolon (at 14)
    ∷ name (called 15 0) ∷ name (called 17 1) ∷ sign signs.Assign (at 18) ∷ sign signs.LeftParen (at 19) ∷ name (called 20 0) ∷ part close_paren ∷ name (called 22 2)
    ∷ sign signs.Semicolon (at 23) ∷ []

types_are_read :
    run 153 (begun typed)
    ≡ state
    (externals
    (Declared (record {
      specifiers = specifier_then (TypeName (called 15 0)) no_specifiers;
      items = record {
        declarator = Named (called 17 1);
        initialiser = Some (at 18, Value (Cast (at 19) (specifier_then (TypeName (called 20 0)) no_specifiers) Absent (Identifier (called 22 2))));
      } ∷ [];
      end = at 23;
    })
    ∷ Declared (record {
      specifiers = specifier_then (Word (at 1) keywords.Typedef) (specifier_then (Word (at 9) keywords.Int) no_specifiers);
      items = record { declarator = Named (called 13 0); initialiser = None } ∷ [];
      end = at 14;
    })
    ∷ []))
    [] ((1, false) ∷ (0, true) ∷ []) []
types_are_read = refl

-- without the typedef the same tokens go no further than the second name
untyped : step (run 153 (begun (name (called 15 0) ∷ name (called 17 1) ∷ []))) ≡ None
untyped = refl
