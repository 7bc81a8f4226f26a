-- Files that break no rule.
use Rattle.std.proofs.Common.{◌≡◌, [], ◌∷◌, Some, None, true, false, refl}
use Rattle.dae_tree.specs.declared.words.Keyword.TheVariants as keyword
use Rattle.dae_tree.specs.declared.operators.BinaryOperator.TheVariants as binary
use Rattle.dae_tree.specs.declared.operators.AssignmentOperator.TheVariants as assignment
use Rattle.dae_tree.specs.declared.operators.PrefixOperator.TheVariants as prefix
use Rattle.dae_tree.specs.declared.operators.PostfixOperator.TheVariants as postfix
use Rattle.dae_tree.specs.declared.operators.MemberOperator.TheVariants as signs
use Rattle.dae_tree.specs.Trees as tree
use Rattle.dae_meaning.specs.Operations.{combined, compared}
use Rattle.dae_types_kinds.specs.Tables.{found_name, found_tag, own_entity, own_tag, found_component}
use Rattle.dae_types_kinds.specs.Types.{shape_of, layout_of, same, composite, layout_at}
use Rattle.dae_types_kinds.specs.Values.{converted, combination, fits, joined}
use Rattle.dae_types_rules.specs.Plan.{ask_all}
use Rattle.dae_types_plans.specs.Steps.{parameter_types}
use Rattle.dae_types_file_plans.specs.Files.{start_of}
use Rattle.dae_types_plans_tests.proofs.Small.{at, name, constant, check}

-- int main(void){int a;a=1; return 0;}
plain : check ((tree.Defined (tree.specifier_then (tree.Word (at 1) keyword.Int) tree.no_specifiers)
    (tree.Empty (tree.Named (name 5 0)) (at 5)) (at 15) ((record {
      specifiers = (tree.specifier_then
          (tree.Word (at 16) keyword.Int) tree.no_specifiers);
      items = (record {
        declarator = (tree.Named
            (name 20 1));
        initialiser = None;
      } ∷ []);
      end = (at 16);
    }) ∷ []) (tree.statement_then
    (tree.Evaluate (tree.Assignment (tree.Identifier (name 22 1)) (at 22) assignment.Assign
    (tree.Number (at 24) (constant 1 false))) (at 22)) (tree.statement_then (tree.Return (at 27)
    (Some (tree.Number (at 34) (constant 0 false))) (at 27)) tree.no_statements))) ∷ []) (start_of
    false false (record {
      printf = None;
      putchar = None;
      exit = None;
      abort = None;
      main = (Some 0);
    }) ([])) ≡ None
unfolding shape_of layout_of same composite layout_at found_name found_tag own_entity own_tag found_component converted combination fits joined combined compared parameter_types ask_all
plain = refl

-- typedef int t;int main(void){int t=3;t=t+1;return 0;}
typedef_hidden : check ((tree.Declared (record {
  specifiers = (tree.specifier_then (tree.Word (at 1)
      keyword.Typedef) (tree.specifier_then (tree.Word (at 9) keyword.Int) tree.no_specifiers));
  items
      = (record { declarator = (tree.Named (name 13 0)); initialiser = None } ∷ []);
  end = (at 1);
}))
    ∷ (tree.Defined (tree.specifier_then (tree.Word (at 15) keyword.Int) tree.no_specifiers)
    (tree.Empty (tree.Named (name 19 1)) (at 19)) (at 29) ((record {
      specifiers =
          (tree.specifier_then (tree.Word (at 30) keyword.Int) tree.no_specifiers);
      items = (record {
        declarator = (tree.Named (name 34 0));
        initialiser = Some (
          (at 36),
          (tree.Value (tree.Number (at
              36) (constant 3 false))),
        );
      } ∷ []);
      end = (at 30);
    }) ∷ []) (tree.statement_then (tree.Evaluate
    (tree.Assignment (tree.Identifier (name 38 0)) (at 38) assignment.Assign (tree.Binary
    (tree.Identifier (name 40 0)) (at 40) binary.Add (tree.Number (at 42) (constant 1 false)))) (at
    38)) (tree.statement_then (tree.Return (at 44) (Some (tree.Number (at 51) (constant 0 false)))
    (at 44)) tree.no_statements))) ∷ []) (start_of false false (record {
      printf = None;
      putchar =
          None;
      exit = None;
      abort = None;
      main = (Some 1);
    }) ([])) ≡ None
unfolding shape_of layout_of same composite layout_at found_name found_tag own_entity own_tag found_component converted combination fits joined combined compared parameter_types ask_all
typedef_hidden = refl

-- int a[3];int main(void){int*p;int i;p=a;i=p[1]+*p;p=p+i;p+=2;p++;i=p-a;if(p==a&&p)i=1;return i;}
pointers : check ((tree.Declared (record {
  specifiers = (tree.specifier_then (tree.Word (at 1)
      keyword.Int) tree.no_specifiers);
  items = (record {
    declarator = (tree.Sized (tree.Named (name 5
        0)) (at 5) (tree.Number (at 7) (constant 3 false)));
    initialiser = None;
  } ∷ []);
  end = (at 1);
})) ∷ (tree.Defined (tree.specifier_then (tree.Word (at 10) keyword.Int) tree.no_specifiers)
    (tree.Empty (tree.Named (name 14 1)) (at 14)) (at 24) ((record {
      specifiers =
          (tree.specifier_then (tree.Word (at 25) keyword.Int) tree.no_specifiers);
      items = (record {
        declarator = (tree.Pointer (at 28) [] (tree.Named (name 29 2)));
        initialiser = None;
      } ∷ []);
      end
          = (at 25);
    }) ∷ (record {
      specifiers = (tree.specifier_then (tree.Word (at 31) keyword.Int)
          tree.no_specifiers);
      items = (record {
        declarator = (tree.Named (name 35 3));
        initialiser = None;
      } ∷ []);
      end = (at 31);
    }) ∷ []) (tree.statement_then (tree.Evaluate (tree.Assignment
    (tree.Identifier (name 37 2)) (at 37) assignment.Assign (tree.Identifier (name 39 0))) (at 37))
    (tree.statement_then (tree.Evaluate (tree.Assignment (tree.Identifier (name 41 3)) (at 41)
    assignment.Assign (tree.Binary (tree.Index (tree.Identifier (name 43 2)) (at 43) (tree.Number
    (at 45) (constant 1 false))) (at 43) binary.Add (tree.Prefix (at 48) prefix.Indirection
    (tree.Identifier (name 49 2))))) (at 41)) (tree.statement_then (tree.Evaluate (tree.Assignment
    (tree.Identifier (name 51 2)) (at 51) assignment.Assign (tree.Binary (tree.Identifier (name 53
    2)) (at 53) binary.Add (tree.Identifier (name 55 3)))) (at 51)) (tree.statement_then
    (tree.Evaluate (tree.Assignment (tree.Identifier (name 57 2)) (at 57) assignment.Add
    (tree.Number (at 60) (constant 2 false))) (at 57)) (tree.statement_then (tree.Evaluate
    (tree.Postfix (tree.Identifier (name 62 2)) (at 62) postfix.Increment) (at 62))
    (tree.statement_then (tree.Evaluate (tree.Assignment (tree.Identifier (name 66 3)) (at 66)
    assignment.Assign (tree.Binary (tree.Identifier (name 68 2)) (at 68) binary.Subtract
    (tree.Identifier (name 70 0)))) (at 66)) (tree.statement_then (tree.If (at 72) (at 72)
    (tree.Binary (tree.Binary (tree.Identifier (name 75 2)) (at 75) binary.Equal (tree.Identifier
    (name 78 0))) (at 75) binary.AndAnd (tree.Identifier (name 81 2))) (tree.Evaluate
    (tree.Assignment (tree.Identifier (name 83 3)) (at 83) assignment.Assign (tree.Number (at 85)
    (constant 1 false))) (at 83))) (tree.statement_then (tree.Return (at 87) (Some (tree.Identifier
    (name 94 3))) (at 87)) tree.no_statements))))))))) ∷ []) (start_of false false (record {
      printf
          = None;
      putchar = None;
      exit = None;
      abort = None;
      main = (Some 1);
    }) ([])) ≡ None
unfolding shape_of layout_of same composite layout_at found_name found_tag own_entity own_tag found_component converted combination fits joined combined compared parameter_types ask_all
pointers = refl

-- struct s{char c;int n;struct s*next;};struct s x;int main(void){struct
-- s*p;p=&x;p->n=x.c;p->next=p;return p->next->n;}
structures : check ((tree.Declared (record {
  specifiers = (tree.specifier_then (tree.StructureBody
      (at 1) (Some (name 8 0)) (at 1) (tree.member_then (tree.specifier_then (tree.Word (at 10)
      keyword.Char) tree.no_specifiers) (tree.declarator_then (tree.Named (name 15 3))
      tree.no_declarators) (at 10) (tree.member_then (tree.specifier_then (tree.Word (at 17)
      keyword.Int) tree.no_specifiers) (tree.declarator_then (tree.Named (name 21 2))
      tree.no_declarators) (at 17) (tree.member_then (tree.specifier_then (tree.Structure (at 23)
      (name 30 0)) tree.no_specifiers) (tree.declarator_then (tree.Pointer (at 31) [] (tree.Named
      (name 32 1))) tree.no_declarators) (at 23) tree.no_members)))) tree.no_specifiers);
  items =
      ([]);
  end = (at 1);
})) ∷ (tree.Declared (record {
  specifiers = (tree.specifier_then
      (tree.Structure (at 39) (name 46 0)) tree.no_specifiers);
  items = (record {
    declarator =
        (tree.Named (name 48 4));
    initialiser = None;
  } ∷ []);
  end = (at 39);
})) ∷ (tree.Defined
    (tree.specifier_then (tree.Word (at 50) keyword.Int) tree.no_specifiers) (tree.Empty (tree.Named
    (name 54 5)) (at 54)) (at 64) ((record {
      specifiers = (tree.specifier_then (tree.Structure (at
          65) (name 72 0)) tree.no_specifiers);
      items = (record {
        declarator = (tree.Pointer (at 73) []
            (tree.Named (name 74 6)));
        initialiser = None;
      } ∷ []);
      end = (at 65);
    }) ∷ [])
    (tree.statement_then (tree.Evaluate (tree.Assignment (tree.Identifier (name 76 6)) (at 76)
    assignment.Assign (tree.Prefix (at 78) prefix.Address (tree.Identifier (name 79 4)))) (at 76))
    (tree.statement_then (tree.Evaluate (tree.Assignment (tree.Member (tree.Identifier (name 81 6))
    (at 81) signs.Arrow (name 84 2)) (at 81) assignment.Assign (tree.Member (tree.Identifier (name
    86 4)) (at 86) signs.Dot (name 88 3))) (at 81)) (tree.statement_then (tree.Evaluate
    (tree.Assignment (tree.Member (tree.Identifier (name 90 6)) (at 90) signs.Arrow (name 93 1)) (at
    90) assignment.Assign (tree.Identifier (name 98 6))) (at 90)) (tree.statement_then (tree.Return
    (at 100) (Some (tree.Member (tree.Member (tree.Identifier (name 107 6)) (at 107) signs.Arrow
    (name 110 1)) (at 107) signs.Arrow (name 116 2))) (at 100)) tree.no_statements))))) ∷ [])
    (start_of false false (record {
      printf = None;
      putchar = None;
      exit = None;
      abort = None;
      main =
          (Some 5);
    }) ([])) ≡ None
unfolding shape_of layout_of same composite layout_at found_name found_tag own_entity own_tag found_component converted combination fits joined combined compared parameter_types ask_all
structures = refl

-- int f(int a,char*b);int f(int a,char*b){return a+*b;}int main(void){return f(1,"a");}
calls : check ((tree.Declared (record {
  specifiers = (tree.specifier_then (tree.Word (at 1)
      keyword.Int) tree.no_specifiers);
  items = (record {
    declarator = (tree.Function (tree.Named
        (name 5 2)) (at 5) (tree.parameter_then (tree.specifier_then (tree.Word (at 7) keyword.Int)
        tree.no_specifiers) (tree.Named (name 11 1)) (tree.parameter_then (tree.specifier_then
        (tree.Word (at 13) keyword.Char) tree.no_specifiers) (tree.Pointer (at 17) [] (tree.Named (name
        18 0))) tree.no_parameters)));
    initialiser = None;
  } ∷ []);
  end = (at 1);
})) ∷ (tree.Defined
    (tree.specifier_then (tree.Word (at 21) keyword.Int) tree.no_specifiers) (tree.Function
    (tree.Named (name 25 2)) (at 25) (tree.parameter_then (tree.specifier_then (tree.Word (at 27)
    keyword.Int) tree.no_specifiers) (tree.Named (name 31 1)) (tree.parameter_then
    (tree.specifier_then (tree.Word (at 33) keyword.Char) tree.no_specifiers) (tree.Pointer (at 37)
    [] (tree.Named (name 38 0))) tree.no_parameters))) (at 40) ([]) (tree.statement_then
    (tree.Return (at 41) (Some (tree.Binary (tree.Identifier (name 48 1)) (at 48) binary.Add
    (tree.Prefix (at 50) prefix.Indirection (tree.Identifier (name 51 0))))) (at 41))
    tree.no_statements)) ∷ (tree.Defined (tree.specifier_then (tree.Word (at 54) keyword.Int)
    tree.no_specifiers) (tree.Empty (tree.Named (name 58 3)) (at 58)) (at 68) ([])
    (tree.statement_then (tree.Return (at 69) (Some (tree.Call (tree.Identifier (name 76 2)) (at 76)
    (tree.expression_then (tree.Number (at 78) (constant 1 false)) (tree.expression_then
    (tree.Literal (at 80) 0) tree.no_expressions)))) (at 69)) tree.no_statements)) ∷ []) (start_of
    false false (record {
      printf = None;
      putchar = None;
      exit = None;
      abort = None;
      main = (Some 3);
    }) ((97 ∷ []) ∷ [])) ≡ None
unfolding shape_of layout_of same composite layout_at found_name found_tag own_entity own_tag found_component converted combination fits joined combined compared parameter_types ask_all
calls = refl

-- int f(struct s{int a;}*p){return f(p);}
recursive_tag : check ((tree.Defined (tree.specifier_then (tree.Word (at 1) keyword.Int)
    tree.no_specifiers) (tree.Function (tree.Named (name 5 3)) (at 5) (tree.parameter_then
    (tree.specifier_then (tree.StructureBody (at 7) (Some (name 14 0)) (at 7) (tree.member_then
    (tree.specifier_then (tree.Word (at 16) keyword.Int) tree.no_specifiers) (tree.declarator_then
    (tree.Named (name 20 1)) tree.no_declarators) (at 16) tree.no_members)) tree.no_specifiers)
    (tree.Pointer (at 23) [] (tree.Named (name 24 2))) tree.no_parameters)) (at 26) ([])
    (tree.statement_then (tree.Return (at 27) (Some (tree.Call (tree.Identifier (name 34 3)) (at 34)
    (tree.expression_then (tree.Identifier (name 36 2)) tree.no_expressions))) (at 27))
    tree.no_statements)) ∷ []) (start_of false false (record {
      printf = None;
      putchar = None;
      exit =
          None;
      abort = None;
      main = None;
    }) ([])) ≡ None
unfolding shape_of layout_of same composite layout_at found_name found_tag own_entity own_tag found_component converted combination fits joined combined compared parameter_types ask_all
recursive_tag = refl

-- struct p{int x;int y[2];};struct p a[2]={1,2,3,{4,{5}}};int b[]={1,2,3};char c[]="ab";char
-- d[2]={"ab"};int*e=&b[1];char*g="x"+1;int h[sizeof b];int k=sizeof c;int main(void){int
-- z[2]={1};int q={2};return z[0]+q;}
initials : check ((tree.Declared (record {
  specifiers = (tree.specifier_then (tree.StructureBody (at
      1) (Some (name 8 0)) (at 1) (tree.member_then (tree.specifier_then (tree.Word (at 10)
      keyword.Int) tree.no_specifiers) (tree.declarator_then (tree.Named (name 14 2))
      tree.no_declarators) (at 10) (tree.member_then (tree.specifier_then (tree.Word (at 16)
      keyword.Int) tree.no_specifiers) (tree.declarator_then (tree.Sized (tree.Named (name 20 1)) (at
      20) (tree.Number (at 22) (constant 2 false))) tree.no_declarators) (at 16) tree.no_members)))
      tree.no_specifiers);
  items = ([]);
  end = (at 1);
})) ∷ (tree.Declared (record {
  specifiers =
      (tree.specifier_then (tree.Structure (at 27) (name 34 0)) tree.no_specifiers);
  items = (record {
    declarator = (tree.Sized (tree.Named (name 36 3)) (at 36) (tree.Number (at 38) (constant 2
        false)));
    initialiser = Some (
      (at 41),
      (tree.Listed (at 41) (tree.initialiser_then (tree.Value
          (tree.Number (at 42) (constant 1 false))) (tree.initialiser_then (tree.Value (tree.Number (at
          44) (constant 2 false))) (tree.initialiser_then (tree.Value (tree.Number (at 46) (constant 3
          false))) (tree.initialiser_then (tree.Listed (at 48) (tree.initialiser_then (tree.Value
          (tree.Number (at 49) (constant 4 false))) (tree.initialiser_then (tree.Listed (at 51)
          (tree.initialiser_then (tree.Value (tree.Number (at 52) (constant 5 false)))
          tree.no_initialisers) false) tree.no_initialisers)) false) tree.no_initialisers)))) false),
    );
  } ∷
      []);
  end = (at 27);
})) ∷ (tree.Declared (record {
  specifiers = (tree.specifier_then (tree.Word
      (at 57) keyword.Int) tree.no_specifiers);
  items = (record {
    declarator = (tree.Unsized
        (tree.Named (name 61 4)) (at 61));
    initialiser = Some (
      (at 65),
      (tree.Listed (at 65)
          (tree.initialiser_then (tree.Value (tree.Number (at 66) (constant 1 false)))
          (tree.initialiser_then (tree.Value (tree.Number (at 68) (constant 2 false)))
          (tree.initialiser_then (tree.Value (tree.Number (at 70) (constant 3 false)))
          tree.no_initialisers))) false),
    );
  } ∷ []);
  end = (at 57);
})) ∷ (tree.Declared (record {
  specifiers
      = (tree.specifier_then (tree.Word (at 73) keyword.Char) tree.no_specifiers);
  items = (record {
    declarator = (tree.Unsized (tree.Named (name 78 5)) (at 78));
    initialiser = Some (
      (at 82),
      (tree.Value (tree.Literal (at 82) 0)),
    );
  } ∷ []);
  end = (at 73);
})) ∷ (tree.Declared (record {
  specifiers = (tree.specifier_then (tree.Word (at 87) keyword.Char) tree.no_specifiers);
  items =
      (record {
        declarator = (tree.Sized (tree.Named (name 92 6)) (at 92) (tree.Number (at 94)
            (constant 2 false)));
        initialiser = Some (
          (at 97),
          (tree.Listed (at 97) (tree.initialiser_then
              (tree.Value (tree.Literal (at 98) 1)) tree.no_initialisers) false),
        );
      } ∷ []);
  end = (at 87);
})) ∷
    (tree.Declared (record {
      specifiers = (tree.specifier_then (tree.Word (at 104) keyword.Int)
          tree.no_specifiers);
      items = (record {
        declarator = (tree.Pointer (at 107) [] (tree.Named (name
            108 7)));
        initialiser = Some (
          (at 110),
          (tree.Value (tree.Prefix (at 110) prefix.Address
              (tree.Index (tree.Identifier (name 111 4)) (at 111) (tree.Number (at 113) (constant 1
              false))))),
        );
      } ∷ []);
      end = (at 104);
    })) ∷ (tree.Declared (record {
      specifiers =
          (tree.specifier_then (tree.Word (at 116) keyword.Char) tree.no_specifiers);
      items = (record {
        declarator = (tree.Pointer (at 120) [] (tree.Named (name 121 8)));
        initialiser = Some (
          (at 123),
          (tree.Value (tree.Binary (tree.Literal (at 123) 2) (at 123) binary.Add (tree.Number (at 127)
              (constant 1 false)))),
        );
      } ∷ []);
      end = (at 116);
    })) ∷ (tree.Declared (record {
      specifiers =
          (tree.specifier_then (tree.Word (at 129) keyword.Int) tree.no_specifiers);
      items = (record {
        declarator = (tree.Sized (tree.Named (name 133 9)) (at 133) (tree.SizeofExpression (at 135)
            (tree.Identifier (name 142 4))));
        initialiser = None;
      } ∷ []);
      end = (at 129);
    })) ∷
    (tree.Declared (record {
      specifiers = (tree.specifier_then (tree.Word (at 145) keyword.Int)
          tree.no_specifiers);
      items = (record {
        declarator = (tree.Named (name 149 10));
        initialiser =
            Some ((at 151), (tree.Value (tree.SizeofExpression (at 151) (tree.Identifier (name 158 5)))));
      }
          ∷ []);
      end = (at 145);
    })) ∷ (tree.Defined (tree.specifier_then (tree.Word (at 160) keyword.Int)
    tree.no_specifiers) (tree.Empty (tree.Named (name 164 11)) (at 164)) (at 174) ((record {
      specifiers = (tree.specifier_then (tree.Word (at 175) keyword.Int) tree.no_specifiers);
      items =
          (record {
            declarator = (tree.Sized (tree.Named (name 179 12)) (at 179) (tree.Number (at 181)
                (constant 2 false)));
            initialiser = Some (
              (at 184),
              (tree.Listed (at 184) (tree.initialiser_then
                  (tree.Value (tree.Number (at 185) (constant 1 false))) tree.no_initialisers) false),
            );
          } ∷ []);
      end = (at 175);
    }) ∷ (record {
      specifiers = (tree.specifier_then (tree.Word (at 188) keyword.Int)
          tree.no_specifiers);
      items = (record {
        declarator = (tree.Named (name 192 13));
        initialiser =
            Some (
              (at 194),
              (tree.Listed (at 194) (tree.initialiser_then (tree.Value (tree.Number (at 195)
                  (constant 2 false))) tree.no_initialisers) false),
            );
      } ∷ []);
      end = (at 188);
    }) ∷ [])
    (tree.statement_then (tree.Return (at 198) (Some (tree.Binary (tree.Index (tree.Identifier (name
    205 12)) (at 205) (tree.Number (at 207) (constant 0 false))) (at 205) binary.Add
    (tree.Identifier (name 210 13)))) (at 198)) tree.no_statements)) ∷ []) (start_of false false
    (record { printf = None; putchar = None; exit = None; abort = None; main = (Some 11) }) ((97 ∷
    98 ∷ []) ∷ (97 ∷ 98 ∷ []) ∷ (120 ∷ []) ∷ [])) ≡ None
unfolding shape_of layout_of same composite layout_at found_name found_tag own_entity own_tag found_component converted combination fits joined combined compared parameter_types ask_all
initials = refl

-- int main(void){int i;int s;i=1;s=0;switch(i){case 1:s+=10;case 2:s+=100;break;case 3:case
-- 4:s=1;break;default:s=2;}for(i=0;i<5;i++){if(i)continue;break;}while(i)i--;do
-- i++;while(i<3);return s;}
switches : check ((tree.Defined (tree.specifier_then (tree.Word (at 1) keyword.Int)
    tree.no_specifiers) (tree.Empty (tree.Named (name 5 0)) (at 5)) (at 15) ((record {
      specifiers =
          (tree.specifier_then (tree.Word (at 16) keyword.Int) tree.no_specifiers);
      items = (record {
        declarator = (tree.Named (name 20 1));
        initialiser = None;
      } ∷ []);
      end = (at 16);
    }) ∷ (record {
      specifiers = (tree.specifier_then (tree.Word (at 22) keyword.Int) tree.no_specifiers);
      items =
          (record { declarator = (tree.Named (name 26 2)); initialiser = None } ∷ []);
      end = (at 22);
    }) ∷
    []) (tree.statement_then (tree.Evaluate (tree.Assignment (tree.Identifier (name 28 1)) (at 28)
    assignment.Assign (tree.Number (at 30) (constant 1 false))) (at 28)) (tree.statement_then
    (tree.Evaluate (tree.Assignment (tree.Identifier (name 32 2)) (at 32) assignment.Assign
    (tree.Number (at 34) (constant 0 false))) (at 32)) (tree.statement_then (tree.Switch (at 36) (at
    36) (tree.Identifier (name 43 1)) (tree.Block (at 45) ([]) (tree.statement_then (tree.Case (at
    46) (tree.Number (at 51) (constant 1 false)) (tree.Evaluate (tree.Assignment (tree.Identifier
    (name 53 2)) (at 53) assignment.Add (tree.Number (at 56) (constant 10 false))) (at 53)))
    (tree.statement_then (tree.Case (at 59) (tree.Number (at 64) (constant 2 false)) (tree.Evaluate
    (tree.Assignment (tree.Identifier (name 66 2)) (at 66) assignment.Add (tree.Number (at 69)
    (constant 100 false))) (at 66))) (tree.statement_then (tree.Break (at 73) (at 73))
    (tree.statement_then (tree.Case (at 79) (tree.Number (at 84) (constant 3 false)) (tree.Case (at
    86) (tree.Number (at 91) (constant 4 false)) (tree.Evaluate (tree.Assignment (tree.Identifier
    (name 93 2)) (at 93) assignment.Assign (tree.Number (at 95) (constant 1 false))) (at 93))))
    (tree.statement_then (tree.Break (at 97) (at 97)) (tree.statement_then (tree.Default (at 103)
    (tree.Evaluate (tree.Assignment (tree.Identifier (name 111 2)) (at 111) assignment.Assign
    (tree.Number (at 113) (constant 2 false))) (at 111))) tree.no_statements))))))))
    (tree.statement_then (tree.For (at 116) (at 116) (Some (tree.Assignment (tree.Identifier (name
    120 1)) (at 120) assignment.Assign (tree.Number (at 122) (constant 0 false)))) (at 116) (Some
    (tree.Binary (tree.Identifier (name 124 1)) (at 124) binary.Less (tree.Number (at 126) (constant
    5 false)))) (at 116) (Some (tree.Postfix (tree.Identifier (name 128 1)) (at 128)
    postfix.Increment)) (tree.Block (at 132) ([]) (tree.statement_then (tree.If (at 133) (at 133)
    (tree.Identifier (name 136 1)) (tree.Continue (at 138) (at 138))) (tree.statement_then
    (tree.Break (at 147) (at 147)) tree.no_statements)))) (tree.statement_then (tree.While (at 154)
    (at 154) (tree.Identifier (name 160 1)) (tree.Evaluate (tree.Postfix (tree.Identifier (name 162
    1)) (at 162) postfix.Decrement) (at 162))) (tree.statement_then (tree.Do (at 166) (tree.Evaluate
    (tree.Postfix (tree.Identifier (name 169 1)) (at 169) postfix.Increment) (at 169)) (at 166) (at
    166) (tree.Binary (tree.Identifier (name 179 1)) (at 179) binary.Less (tree.Number (at 181)
    (constant 3 false))) (at 166)) (tree.statement_then (tree.Return (at 184) (Some (tree.Identifier
    (name 191 2))) (at 184)) tree.no_statements)))))))) ∷ []) (start_of false false (record {
      printf
          = None;
      putchar = None;
      exit = None;
      abort = None;
      main = (Some 0);
    }) ([])) ≡ None
unfolding shape_of layout_of same composite layout_at found_name found_tag own_entity own_tag found_component converted combination fits joined combined compared parameter_types ask_all
switches = refl

-- with <stdio.h>: int main(void){printf("%d %s%%%c\n",1,"a",65);putchar(65);return 0;}
prints : check ((tree.Defined (tree.specifier_then (tree.Word (at 1) keyword.Int)
    tree.no_specifiers) (tree.Empty (tree.Named (name 5 0)) (at 5)) (at 15) ([])
    (tree.statement_then (tree.Evaluate (tree.Call (tree.Identifier (name 16 1)) (at 16)
    (tree.expression_then (tree.Literal (at 23) 0) (tree.expression_then (tree.Number (at 37)
    (constant 1 false)) (tree.expression_then (tree.Literal (at 39) 1) (tree.expression_then
    (tree.Number (at 43) (constant 65 false)) tree.no_expressions))))) (at 16)) (tree.statement_then
    (tree.Evaluate (tree.Call (tree.Identifier (name 47 2)) (at 47) (tree.expression_then
    (tree.Number (at 55) (constant 65 false)) tree.no_expressions)) (at 47)) (tree.statement_then
    (tree.Return (at 59) (Some (tree.Number (at 66) (constant 0 false))) (at 59))
    tree.no_statements)))) ∷ []) (start_of true false (record {
      printf = (Some 1);
      putchar = (Some
          2);
      exit = None;
      abort = None;
      main = (Some 0);
    }) ((37 ∷ 100 ∷ 32 ∷ 37 ∷ 115 ∷ 37 ∷ 37 ∷ 37 ∷ 99
    ∷ 10 ∷ []) ∷ (97 ∷ []) ∷ [])) ≡ None
unfolding shape_of layout_of same composite layout_at found_name found_tag own_entity own_tag found_component converted combination fits joined combined compared parameter_types ask_all
prints = refl

-- extern int a[];int a[];int a[3];static int f(void);static int f(void){return a[0];}int
-- main(void){return f()+(int)sizeof a;}
tentative : check ((tree.Declared (record {
  specifiers = (tree.specifier_then (tree.Word (at 1)
      keyword.Extern) (tree.specifier_then (tree.Word (at 8) keyword.Int) tree.no_specifiers));
  items
      = (record { declarator = (tree.Unsized (tree.Named (name 12 0)) (at 12)); initialiser = None } ∷
      []);
  end = (at 1);
})) ∷ (tree.Declared (record {
  specifiers = (tree.specifier_then (tree.Word
      (at 16) keyword.Int) tree.no_specifiers);
  items = (record {
    declarator = (tree.Unsized
        (tree.Named (name 20 0)) (at 20));
    initialiser = None;
  } ∷ []);
  end = (at 16);
})) ∷
    (tree.Declared (record {
      specifiers = (tree.specifier_then (tree.Word (at 24) keyword.Int)
          tree.no_specifiers);
      items = (record {
        declarator = (tree.Sized (tree.Named (name 28 0)) (at 28)
            (tree.Number (at 30) (constant 3 false)));
        initialiser = None;
      } ∷ []);
      end = (at 24);
    })) ∷
    (tree.Declared (record {
      specifiers = (tree.specifier_then (tree.Word (at 33) keyword.Static)
          (tree.specifier_then (tree.Word (at 40) keyword.Int) tree.no_specifiers));
      items = (record {
        declarator = (tree.Empty (tree.Named (name 44 1)) (at 44));
        initialiser = None;
      } ∷ []);
      end =
          (at 33);
    })) ∷ (tree.Defined (tree.specifier_then (tree.Word (at 52) keyword.Static)
    (tree.specifier_then (tree.Word (at 59) keyword.Int) tree.no_specifiers)) (tree.Empty
    (tree.Named (name 63 1)) (at 63)) (at 70) ([]) (tree.statement_then (tree.Return (at 71) (Some
    (tree.Index (tree.Identifier (name 78 0)) (at 78) (tree.Number (at 80) (constant 0 false)))) (at
    71)) tree.no_statements)) ∷ (tree.Defined (tree.specifier_then (tree.Word (at 84) keyword.Int)
    tree.no_specifiers) (tree.Empty (tree.Named (name 88 2)) (at 88)) (at 98) ([])
    (tree.statement_then (tree.Return (at 99) (Some (tree.Binary (tree.Call (tree.Identifier (name
    106 1)) (at 106) tree.no_expressions) (at 106) binary.Add (tree.Cast (at 110)
    (tree.specifier_then (tree.Word (at 111) keyword.Int) tree.no_specifiers) tree.Absent
    (tree.SizeofExpression (at 115) (tree.Identifier (name 122 0)))))) (at 99)) tree.no_statements))
    ∷ []) (start_of false false (record {
      printf = None;
      putchar = None;
      exit = None;
      abort = None;
      main = (Some 2);
    }) ([])) ≡ None
unfolding shape_of layout_of same composite layout_at found_name found_tag own_entity own_tag found_component converted combination fits joined combined compared parameter_types ask_all
tentative = refl

-- enum e{A,B=5,C};int x[C];int main(void){enum e v;v=C;return v?A:B;}
enums : check ((tree.Declared (record {
  specifiers = (tree.specifier_then (tree.EnumerationBody (at
      1) (Some (name 6 0)) (at 1) (tree.plain_then (name 8 3) (tree.valued_then (name 10 2) (at 10)
      (tree.Number (at 12) (constant 5 false)) (tree.plain_then (name 14 1) tree.no_enumerators)))
      false) tree.no_specifiers);
  items = ([]);
  end = (at 1);
})) ∷ (tree.Declared (record {
  specifiers
      = (tree.specifier_then (tree.Word (at 17) keyword.Int) tree.no_specifiers);
  items = (record {
    declarator = (tree.Sized (tree.Named (name 21 4)) (at 21) (tree.Identifier (name 23 1)));
    initialiser = None;
  } ∷ []);
  end = (at 17);
})) ∷ (tree.Defined (tree.specifier_then (tree.Word
    (at 26) keyword.Int) tree.no_specifiers) (tree.Empty (tree.Named (name 30 5)) (at 30)) (at 40)
    ((record {
      specifiers = (tree.specifier_then (tree.Enumeration (at 41) (name 46 0))
          tree.no_specifiers);
      items = (record {
        declarator = (tree.Named (name 48 6));
        initialiser = None;
      } ∷ []);
      end = (at 41);
    }) ∷ []) (tree.statement_then (tree.Evaluate (tree.Assignment
    (tree.Identifier (name 50 6)) (at 50) assignment.Assign (tree.Identifier (name 52 1))) (at 50))
    (tree.statement_then (tree.Return (at 54) (Some (tree.Conditional (tree.Identifier (name 61 6))
    (at 61) (tree.Identifier (name 63 3)) (tree.Identifier (name 65 2)))) (at 54))
    tree.no_statements))) ∷ []) (start_of false false (record {
      printf = None;
      putchar = None;
      exit
          = None;
      abort = None;
      main = (Some 5);
    }) ([])) ≡ None
unfolding shape_of layout_of same composite layout_at found_name found_tag own_entity own_tag found_component converted combination fits joined combined compared parameter_types ask_all
enums = refl
