-- What is written for small functions, by C90: their statements.
use Rattle.std.proofs.Common.{◌≡◌, List, [], ◌∷◌, Some, None, Result, Ok, Err, true, false, refl}
use Rattle.dae_tree.specs.declared.words.Keyword.TheVariants as keyword
use Rattle.dae_tree.specs.declared.operators.BinaryOperator.TheVariants as binary
use Rattle.dae_tree.specs.declared.operators.AssignmentOperator.TheVariants as assignment
use Rattle.dae_tree.specs.declared.operators.PrefixOperator.TheVariants as prefix
use Rattle.dae_tree.specs.declared.operators.MemberOperator.TheVariants as signs
use Rattle.dae_tree.specs.Trees as tree
use Rattle.dae_program.specs.Trees as program
use Rattle.dae_base.specs.declared.LoadKind.TheVariants as kinds
use Rattle.dae_base.specs.declared.Width.TheVariants as widths
use Rattle.dae_meaning.specs.declared.Operator.TheVariants as operator
use Rattle.dae_meaning.specs.declared.Comparison.TheVariants as comparison
use Rattle.dae_meaning.specs.Operations.{combined, compared}
use Rattle.dae_types_kinds.specs.declared.rules.Breach.{Breach}
use Rattle.dae_types_kinds.specs.Tables.{Tables, found_name, found_tag, own_entity, own_tag, found_component}
use Rattle.dae_types_kinds.specs.Types.{shape_of, layout_of, same, composite, layout_at}
use Rattle.dae_types_kinds.specs.Values.{converted, combination, fits, joined}
use Rattle.dae_types_rules.specs.Plan.{check_of, ask_all}
use Rattle.dae_types_plans.specs.Steps.{parameter_types}
use Rattle.dae_types_file_plans.specs.Files.{plan_file, start_of, Product, Declares, Data, Body}
use Rattle.dae_types_plans_tests.proofs.Small.{at, name, constant}

abbrev bodies : List Product → List program.Statements
bodies [] = []
bodies (Declares d ∷ xs) = bodies xs
bodies (Data o items ∷ xs) = bodies xs
bodies (Body f ls ss x ∷ xs) = x ∷ bodies xs

abbrev written : {A : Type 0} → Result (A × List Product) Breach → List program.Statements
written (Ok x) = bodies x.1
written (Err f) = []

abbrev check : List tree.External → Tables → List program.Statements
check xs s = written (check_of (plan_file xs) s)

-- A char is read as an unsigned byte, and promotion keeps its word: char c;int f(void){return c;}
char_is_read : check ((tree.Declared (record {
  specifiers = (tree.specifier_then (tree.Word (at 1)
      keyword.Char) tree.no_specifiers);
  items = (record {
    declarator = (tree.Named (name 6 0));
    initialiser = None;
  } ∷ []);
  end = (at 1);
})) ∷ (tree.Defined (tree.specifier_then (tree.Word (at
    8) keyword.Int) tree.no_specifiers) (tree.Empty (tree.Named (name 12 1)) (at 12)) (at 19) ([])
    (tree.statement_then (tree.Return (at 20) (Some (tree.Identifier (name 27 0))) (at 20))
    tree.no_statements)) ∷ []) (start_of false false (record {
      printf = None;
      putchar = None;
      exit =
          None;
      abort = None;
      main = None;
    }) ([])) ≡ (program.Return (at 20) (Some (program.Read (at 27)
    kinds.U8 false (program.Address 0 0))) program.Done) ∷ []
unfolding shape_of layout_of same composite layout_at found_name found_tag own_entity own_tag found_component converted combination fits joined combined compared parameter_types ask_all
char_is_read = refl

-- An index is scaled: int f(int*p,int i){return p[i];}
index_is_scaled : check ((tree.Defined (tree.specifier_then (tree.Word (at 1) keyword.Int)
    tree.no_specifiers) (tree.Function (tree.Named (name 5 2)) (at 5) (tree.parameter_then
    (tree.specifier_then (tree.Word (at 7) keyword.Int) tree.no_specifiers) (tree.Pointer (at 10) []
    (tree.Named (name 11 1))) (tree.parameter_then (tree.specifier_then (tree.Word (at 13)
    keyword.Int) tree.no_specifiers) (tree.Named (name 17 0)) tree.no_parameters))) (at 19) ([])
    (tree.statement_then (tree.Return (at 20) (Some (tree.Index (tree.Identifier (name 27 1)) (at
    27) (tree.Identifier (name 29 0)))) (at 20)) tree.no_statements)) ∷ []) (start_of false false
    (record { printf = None; putchar = None; exit = None; abort = None; main = None }) ([])) ≡
    (program.Return (at 20) (Some (program.Read (at 27) kinds.I32 true (program.Binary (at 27)
    operator.Add (program.Variable (at 27) 1) (program.Binary (at 27) operator.Multiply
    (program.Variable (at 29) 2) (program.Number 4))))) program.Done) ∷ []
unfolding shape_of layout_of same composite layout_at found_name found_tag own_entity own_tag found_component converted combination fits joined combined compared parameter_types ask_all
index_is_scaled = refl

-- An unsigned operand makes a comparison unsigned: unsigned u;int f(int a){return a<u;}
comparison_is_unsigned : check ((tree.Declared (record {
  specifiers = (tree.specifier_then
      (tree.Word (at 1) keyword.Unsigned) (tree.specifier_then (tree.Word (at 1) keyword.Int)
      tree.no_specifiers));
  items = (record {
    declarator = (tree.Named (name 10 0));
    initialiser =
        None;
  } ∷ []);
  end = (at 1);
})) ∷ (tree.Defined (tree.specifier_then (tree.Word (at 12)
    keyword.Int) tree.no_specifiers) (tree.Function (tree.Named (name 16 2)) (at 16)
    (tree.parameter_then (tree.specifier_then (tree.Word (at 18) keyword.Int) tree.no_specifiers)
    (tree.Named (name 22 1)) tree.no_parameters)) (at 24) ([]) (tree.statement_then (tree.Return (at
    25) (Some (tree.Binary (tree.Identifier (name 32 1)) (at 32) binary.Less (tree.Identifier (name
    34 0)))) (at 25)) tree.no_statements)) ∷ []) (start_of false false (record {
      printf = None;
      putchar = None;
      exit = None;
      abort = None;
      main = None;
    }) ([])) ≡ (program.Return (at 25) (Some
    (program.Compare (at 32) comparison.LessUnsigned false (program.Variable (at 32) 1)
    (program.Read (at 34) kinds.I32 false (program.Address 0 0)))) program.Done) ∷ []
unfolding shape_of layout_of same composite layout_at found_name found_tag own_entity own_tag found_component converted combination fits joined combined compared parameter_types ask_all
comparison_is_unsigned = refl

-- A local whose address is taken later stands in the frame from the start: int f(void){int
-- a;int*p;p=&a;return *p;}
address_is_taken : check ((tree.Defined (tree.specifier_then (tree.Word (at 1) keyword.Int)
    tree.no_specifiers) (tree.Empty (tree.Named (name 5 0)) (at 5)) (at 12) ((record {
      specifiers =
          (tree.specifier_then (tree.Word (at 13) keyword.Int) tree.no_specifiers);
      items = (record {
        declarator = (tree.Named (name 17 1));
        initialiser = None;
      } ∷ []);
      end = (at 13);
    }) ∷ (record {
      specifiers = (tree.specifier_then (tree.Word (at 19) keyword.Int) tree.no_specifiers);
      items =
          (record { declarator = (tree.Pointer (at 22) [] (tree.Named (name 23 2))); initialiser = None }
          ∷ []);
      end = (at 19);
    }) ∷ []) (tree.statement_then (tree.Evaluate (tree.Assignment
    (tree.Identifier (name 25 2)) (at 25) assignment.Assign (tree.Prefix (at 27) prefix.Address
    (tree.Identifier (name 28 1)))) (at 25)) (tree.statement_then (tree.Return (at 30) (Some
    (tree.Prefix (at 37) prefix.Indirection (tree.Identifier (name 38 2)))) (at 30))
    tree.no_statements))) ∷ []) (start_of false false (record {
      printf = None;
      putchar = None;
      exit
          = None;
      abort = None;
      main = None;
    }) ([])) ≡ (program.Evaluate (at 17) (program.Assign (at 17)
    kinds.I32 (program.AtAddress false (program.Frame (at 17) 0)) (program.Number 0))
    (program.Evaluate (at 23) (program.Assign (at 23) kinds.I32 (program.InVariable 1)
    (program.Number 0)) (program.Evaluate (at 25) (program.Assign (at 25) kinds.I32
    (program.InVariable 1) (program.Frame (at 28) 0)) (program.Return (at 30) (Some (program.Read
    (at 37) kinds.I32 true (program.Variable (at 38) 1))) program.Done)))) ∷ []
unfolding shape_of layout_of same composite layout_at found_name found_tag own_entity own_tag found_component converted combination fits joined combined compared parameter_types ask_all
address_is_taken = refl

-- A member stands at its offset: struct s{char c;short h;};int f(struct s*p){return p->h;}
member_has_its_offset : check ((tree.Declared (record {
  specifiers = (tree.specifier_then
      (tree.StructureBody (at 1) (Some (name 8 0)) (at 1) (tree.member_then (tree.specifier_then
      (tree.Word (at 10) keyword.Char) tree.no_specifiers) (tree.declarator_then (tree.Named (name 15
      2)) tree.no_declarators) (at 10) (tree.member_then (tree.specifier_then (tree.Word (at 17)
      keyword.Short) tree.no_specifiers) (tree.declarator_then (tree.Named (name 23 1))
      tree.no_declarators) (at 17) tree.no_members))) tree.no_specifiers);
  items = ([]);
  end = (at 1);
})) ∷ (tree.Defined (tree.specifier_then (tree.Word (at 27) keyword.Int) tree.no_specifiers)
    (tree.Function (tree.Named (name 31 4)) (at 31) (tree.parameter_then (tree.specifier_then
    (tree.Structure (at 33) (name 40 0)) tree.no_specifiers) (tree.Pointer (at 41) [] (tree.Named
    (name 42 3))) tree.no_parameters)) (at 44) ([]) (tree.statement_then (tree.Return (at 45) (Some
    (tree.Member (tree.Identifier (name 52 3)) (at 52) signs.Arrow (name 55 1))) (at 45))
    tree.no_statements)) ∷ []) (start_of false false (record {
      printf = None;
      putchar = None;
      exit =
          None;
      abort = None;
      main = None;
    }) ([])) ≡ (program.Return (at 45) (Some (program.Read (at 52)
    kinds.I16 true (program.Binary (at 52) operator.Add (program.Variable (at 52) 1) (program.Number
    2)))) program.Done) ∷ []
unfolding shape_of layout_of same composite layout_at found_name found_tag own_entity own_tag found_component converted combination fits joined combined compared parameter_types ask_all
member_has_its_offset = refl

-- Labels with no statement between them share an arm: int f(int a){switch(a){case 1:case
-- 2:a=0;break;default:return 5;}return a;}
labels_share_an_arm : check ((tree.Defined (tree.specifier_then (tree.Word (at 1) keyword.Int)
    tree.no_specifiers) (tree.Function (tree.Named (name 5 1)) (at 5) (tree.parameter_then
    (tree.specifier_then (tree.Word (at 7) keyword.Int) tree.no_specifiers) (tree.Named (name 11 0))
    tree.no_parameters)) (at 13) ([]) (tree.statement_then (tree.Switch (at 14) (at 14)
    (tree.Identifier (name 21 0)) (tree.Block (at 23) ([]) (tree.statement_then (tree.Case (at 24)
    (tree.Number (at 29) (constant 1 false)) (tree.Case (at 31) (tree.Number (at 36) (constant 2
    false)) (tree.Evaluate (tree.Assignment (tree.Identifier (name 38 0)) (at 38) assignment.Assign
    (tree.Number (at 40) (constant 0 false))) (at 38)))) (tree.statement_then (tree.Break (at 42)
    (at 42)) (tree.statement_then (tree.Default (at 48) (tree.Return (at 56) (Some (tree.Number (at
    63) (constant 5 false))) (at 56))) tree.no_statements))))) (tree.statement_then (tree.Return (at
    66) (Some (tree.Identifier (name 73 0))) (at 66)) tree.no_statements))) ∷ []) (start_of false
    false (record { printf = None; putchar = None; exit = None; abort = None; main = None }) ([])) ≡
    (program.Switch (at 14) (program.Variable (at 21) 1) (program.arm_then (Some 1 ∷ Some 2 ∷ [])
    (program.Evaluate (at 38) (program.Assign (at 38) kinds.I32 (program.InVariable 1)
    (program.Number 0)) (program.Break (at 42) program.Done)) (program.arm_then (None ∷ [])
    (program.Return (at 56) (Some (program.Number 5)) program.Done) program.no_arms))
    (program.Return (at 66) (Some (program.Variable (at 73) 1)) program.Done)) ∷ []
unfolding shape_of layout_of same composite layout_at found_name found_tag own_entity own_tag found_component converted combination fits joined combined compared parameter_types ask_all
labels_share_an_arm = refl

-- A cast to char keeps a byte, and a branch that is not taken divides by nothing: char*p;int f(int
-- a){p+=a;return (char)(a+1)+(1?2:3/0);}
narrow_is_converted : check ((tree.Declared (record {
  specifiers = (tree.specifier_then (tree.Word
      (at 1) keyword.Char) tree.no_specifiers);
  items = (record {
    declarator = (tree.Pointer (at 5) []
        (tree.Named (name 6 0)));
    initialiser = None;
  } ∷ []);
  end = (at 1);
})) ∷ (tree.Defined
    (tree.specifier_then (tree.Word (at 8) keyword.Int) tree.no_specifiers) (tree.Function
    (tree.Named (name 12 2)) (at 12) (tree.parameter_then (tree.specifier_then (tree.Word (at 14)
    keyword.Int) tree.no_specifiers) (tree.Named (name 18 1)) tree.no_parameters)) (at 20) ([])
    (tree.statement_then (tree.Evaluate (tree.Assignment (tree.Identifier (name 21 0)) (at 21)
    assignment.Add (tree.Identifier (name 24 1))) (at 21)) (tree.statement_then (tree.Return (at 26)
    (Some (tree.Binary (tree.Cast (at 33) (tree.specifier_then (tree.Word (at 34) keyword.Char)
    tree.no_specifiers) tree.Absent (tree.Parenthesised (at 39) (tree.Binary (tree.Identifier (name
    40 1)) (at 40) binary.Add (tree.Number (at 42) (constant 1 false))))) (at 33) binary.Add
    (tree.Parenthesised (at 45) (tree.Conditional (tree.Number (at 46) (constant 1 false)) (at 46)
    (tree.Number (at 48) (constant 2 false)) (tree.Binary (tree.Number (at 50) (constant 3 false))
    (at 50) binary.Divide (tree.Number (at 52) (constant 0 false))))))) (at 26))
    tree.no_statements))) ∷ []) (start_of false false (record {
      printf = None;
      putchar = None;
      exit
          = None;
      abort = None;
      main = None;
    }) ([])) ≡ (program.Evaluate (at 21) (program.Update (at 21)
    kinds.I32 (program.AtAddress false (program.Address 0 0)) operator.Add (program.Variable (at 24)
    1)) (program.Return (at 26) (Some (program.Binary (at 33) operator.Add (program.Convert (at 33)
    kinds.U8 (program.Binary (at 40) operator.Add (program.Variable (at 40) 1) (program.Number 1)))
    (program.Number 2))) program.Done)) ∷ []
unfolding shape_of layout_of same composite layout_at found_name found_tag own_entity own_tag found_component converted combination fits joined combined compared parameter_types ask_all
narrow_is_converted = refl

-- A variable that its own initialiser names is 0 before: int f(void){int k=k+1;return k;}
own_name_is_zero : check ((tree.Defined (tree.specifier_then (tree.Word (at 1) keyword.Int)
    tree.no_specifiers) (tree.Empty (tree.Named (name 5 0)) (at 5)) (at 12) ((record {
      specifiers =
          (tree.specifier_then (tree.Word (at 13) keyword.Int) tree.no_specifiers);
      items = (record {
        declarator = (tree.Named (name 17 1));
        initialiser = Some (
          (at 19),
          (tree.Value (tree.Binary
              (tree.Identifier (name 19 1)) (at 19) binary.Add (tree.Number (at 21) (constant 1 false)))),
        );
      } ∷
          []);
      end = (at 13);
    }) ∷ []) (tree.statement_then (tree.Return (at 23) (Some (tree.Identifier
    (name 30 1))) (at 23)) tree.no_statements)) ∷ []) (start_of false false (record {
      printf = None;
      putchar = None;
      exit = None;
      abort = None;
      main = None;
    }) ([])) ≡ (program.Evaluate (at 17)
    (program.Assign (at 17) kinds.I32 (program.InVariable 1) (program.Number 0)) (program.Evaluate
    (at 17) (program.Assign (at 17) kinds.I32 (program.InVariable 1) (program.Binary (at 19)
    operator.Add (program.Variable (at 19) 1) (program.Number 1))) (program.Return (at 23) (Some
    (program.Variable (at 30) 1)) program.Done))) ∷ []
unfolding shape_of layout_of same composite layout_at found_name found_tag own_entity own_tag found_component converted combination fits joined combined compared parameter_types ask_all
own_name_is_zero = refl

-- In a loop it is 0 each time that its declaration is reached: int f(int
-- a){while(a){int k=k+1;a=a-k;}return 0;}
own_name_in_loop : check ((tree.Defined (tree.specifier_then (tree.Word (at 1) keyword.Int)
    tree.no_specifiers) (tree.Function (tree.Named (name 5 1)) (at 6) (tree.parameter_then
    (tree.specifier_then (tree.Word (at 7) keyword.Int) tree.no_specifiers) (tree.Named (name 11 0))
    tree.no_parameters)) (at 13) ([]) (tree.statement_then (tree.While (at 14) (at 19)
    (tree.Identifier (name 20 0)) (tree.Block (at 22) ((record {
      specifiers = (tree.specifier_then
          (tree.Word (at 23) keyword.Int) tree.no_specifiers);
      items = (record {
        declarator = (tree.Named
            (name 27 2));
        initialiser = Some (
          (at 28),
          (tree.Value (tree.Binary (tree.Identifier (name 29
              2)) (at 30) binary.Add (tree.Number (at 31) (constant 1 false)))),
        );
      } ∷ []);
      end = (at 32);
    }) ∷
    []) (tree.statement_then (tree.Evaluate (tree.Assignment (tree.Identifier (name 33 0)) (at 34)
    assignment.Assign (tree.Binary (tree.Identifier (name 35 0)) (at 36) binary.Subtract
    (tree.Identifier (name 37 2)))) (at 38)) tree.no_statements))) (tree.statement_then (tree.Return
    (at 40) (Some (tree.Number (at 47) (constant 0 false))) (at 48)) tree.no_statements))) ∷ [])
    (start_of false false (record {
      printf = None;
      putchar = None;
      exit = None;
      abort = None;
      main =
          None;
    }) ([])) ≡ (program.Loop (at 14) (Some (program.Variable (at 20) 1)) (program.Evaluate (at 27)
    (program.Assign (at 27) kinds.I32 (program.InVariable 2) (program.Number 0)) (program.Evaluate
    (at 27) (program.Assign (at 27) kinds.I32 (program.InVariable 2) (program.Binary (at 29)
    operator.Add (program.Variable (at 29) 2) (program.Number 1))) (program.Evaluate (at 33)
    (program.Assign (at 33) kinds.I32 (program.InVariable 1) (program.Binary (at 35)
    operator.Subtract (program.Variable (at 35) 1) (program.Variable (at 37) 2))) program.Done)))
    None (program.Return (at 40) (Some (program.Number 0)) program.Done)) ∷ []
unfolding shape_of layout_of same composite layout_at found_name found_tag own_entity own_tag found_component converted combination fits joined combined compared parameter_types ask_all
own_name_in_loop = refl

-- A variable that stands in a size alone is set once: int f(int a){int k=sizeof k+a;return k;}
size_names_nothing : check ((tree.Defined (tree.specifier_then (tree.Word (at 1) keyword.Int)
    tree.no_specifiers) (tree.Function (tree.Named (name 5 1)) (at 5) (tree.parameter_then
    (tree.specifier_then (tree.Word (at 7) keyword.Int) tree.no_specifiers) (tree.Named (name 11 0))
    tree.no_parameters)) (at 13) ((record {
      specifiers = (tree.specifier_then (tree.Word (at 14)
          keyword.Int) tree.no_specifiers);
      items = (record {
        declarator = (tree.Named (name 18 2));
        initialiser = Some (
          (at 20),
          (tree.Value (tree.Binary (tree.SizeofExpression (at 20)
              (tree.Identifier (name 27 2))) (at 20) binary.Add (tree.Identifier (name 29 0)))),
        );
      } ∷ []);
      end
          = (at 14);
    }) ∷ []) (tree.statement_then (tree.Return (at 31) (Some (tree.Identifier (name 38
    2))) (at 31)) tree.no_statements)) ∷ []) (start_of false false (record {
      printf = None;
      putchar
          = None;
      exit = None;
      abort = None;
      main = None;
    }) ([])) ≡ (program.Evaluate (at 18)
    (program.Assign (at 18) kinds.I32 (program.InVariable 2) (program.Binary (at 20) operator.Add
    (program.Number 4) (program.Variable (at 29) 1))) (program.Return (at 31) (Some
    (program.Variable (at 38) 2)) program.Done)) ∷ []
unfolding shape_of layout_of same composite layout_at found_name found_tag own_entity own_tag found_component converted combination fits joined combined compared parameter_types ask_all
size_names_nothing = refl

-- The items of an object in the frame have offsets from where the frame begins: int f(){int
-- a[1]={1};int b[1]={5};return 0;}
second_aggregate_is_placed : check ((tree.Defined (tree.specifier_then (tree.Word (at 1)
    keyword.Int) tree.no_specifiers) (tree.Empty (tree.Named (name 5 0)) (at 6)) (at 9) ((record {
      specifiers = (tree.specifier_then (tree.Word (at 9) keyword.Int) tree.no_specifiers);
      items =
          (record {
            declarator = (tree.Sized (tree.Named (name 13 1)) (at 14) (tree.Number (at 15)
                (constant 1 false)));
            initialiser = (Some (
              (at 17),
              (tree.Listed (at 18) (tree.initialiser_then
                  (tree.Value (tree.Number (at 19) (constant 1 false))) tree.no_initialisers) false),
            ));
          } ∷ []);
      end = (at 9);
    }) ∷ (record {
      specifiers = (tree.specifier_then (tree.Word (at 22) keyword.Int)
          tree.no_specifiers);
      items = (record {
        declarator = (tree.Sized (tree.Named (name 26 2)) (at 27)
            (tree.Number (at 28) (constant 1 false)));
        initialiser = (Some (
          (at 30),
          (tree.Listed (at 31)
              (tree.initialiser_then (tree.Value (tree.Number (at 32) (constant 5 false)))
              tree.no_initialisers) false),
        ));
      } ∷ []);
      end = (at 22);
    }) ∷ []) (tree.statement_then (tree.Return
    (at 35) (Some (tree.Number (at 42) (constant 0 false))) (at 35)) tree.no_statements)) ∷ [])
    (start_of false false (record {
      printf = None;
      putchar = None;
      exit = None;
      abort = None;
      main =
          None;
    }) ([])) ≡ (program.Initialise (at 13) 0 4 (record {
      offset = 0;
      width = widths.B4;
      value =
          program.Number 1;
    } ∷ []) (program.Initialise (at 26) 4 4 (record {
      offset = 4;
      width =
          widths.B4;
      value = program.Number 5;
    } ∷ []) (program.Return (at 35) (Some (program.Number 0))
    program.Done))) ∷ []
unfolding shape_of layout_of same composite layout_at found_name found_tag own_entity own_tag found_component converted combination fits joined combined compared parameter_types ask_all
second_aggregate_is_placed = refl
