-- Files that break a rule, the first that a check meets: values, initialisers, statements and
-- definitions.
use Rattle.std.proofs.Common.{◌≡◌, [], ◌∷◌, Some, None, true, false, refl}
use Rattle.dae_tree.specs.declared.words.Keyword.TheVariants as keyword
use Rattle.dae_tree.specs.declared.operators.BinaryOperator.TheVariants as binary
use Rattle.dae_tree.specs.declared.operators.AssignmentOperator.TheVariants as assignment
use Rattle.dae_tree.specs.declared.operators.PrefixOperator.TheVariants as prefix
use Rattle.dae_tree.specs.declared.operators.MemberOperator.TheVariants as signs
use Rattle.dae_tree.specs.Trees as tree
use Rattle.dae_meaning.specs.Operations.{combined, compared}
use Rattle.dae_types_kinds.specs.declared.rules.Rule.TheVariants as rule
use Rattle.dae_types_kinds.specs.Tables.{found_name, found_tag, own_entity, own_tag, found_component}
use Rattle.dae_types_kinds.specs.Types.{shape_of, layout_of, same, composite, layout_at}
use Rattle.dae_types_kinds.specs.Values.{converted, combination, fits, joined}
use Rattle.dae_types_rules.specs.Plan.{ask_all}
use Rattle.dae_types_plans.specs.Steps.{parameter_types}
use Rattle.dae_types_file_plans.specs.Files.{start_of}
use Rattle.dae_types_plans_tests.proofs.Small.{at, name, constant, breach, check}

-- int main(void){1[2]; return 0;}
bad_index : check ((tree.Defined (tree.specifier_then (tree.Word (at 1) keyword.Int)
    tree.no_specifiers) (tree.Empty (tree.Named (name 5 0)) (at 5)) (at 15) ([])
    (tree.statement_then (tree.Evaluate (tree.Index (tree.Number (at 16) (constant 1 false)) (at 16)
    (tree.Number (at 18) (constant 2 false))) (at 16)) (tree.statement_then (tree.Return (at 22)
    (Some (tree.Number (at 29) (constant 0 false))) (at 22)) tree.no_statements))) ∷ []) (start_of
    false false (record {
      printf = None;
      putchar = None;
      exit = None;
      abort = None;
      main = (Some 0);
    }) ([])) ≡ breach rule.BadIndex 16
unfolding shape_of layout_of same composite layout_at found_name found_tag own_entity own_tag found_component converted combination fits joined combined compared parameter_types ask_all
bad_index = refl

-- int main(void){*1; return 0;}
bad_deref : check ((tree.Defined (tree.specifier_then (tree.Word (at 1) keyword.Int)
    tree.no_specifiers) (tree.Empty (tree.Named (name 5 0)) (at 5)) (at 15) ([])
    (tree.statement_then (tree.Evaluate (tree.Prefix (at 16) prefix.Indirection (tree.Number (at 17)
    (constant 1 false))) (at 16)) (tree.statement_then (tree.Return (at 20) (Some (tree.Number (at
    27) (constant 0 false))) (at 20)) tree.no_statements))) ∷ []) (start_of false false (record {
      printf = None;
      putchar = None;
      exit = None;
      abort = None;
      main = (Some 0);
    }) ([])) ≡ breach
    rule.BadDeref 16
unfolding shape_of layout_of same composite layout_at found_name found_tag own_entity own_tag found_component converted combination fits joined combined compared parameter_types ask_all
bad_deref = refl

-- void*p;int main(void){*p;return 0;}
bad_deref_void : check ((tree.Declared (record {
  specifiers = (tree.specifier_then (tree.Word (at 1)
      keyword.Void) tree.no_specifiers);
  items = (record {
    declarator = (tree.Pointer (at 5) []
        (tree.Named (name 6 0)));
    initialiser = None;
  } ∷ []);
  end = (at 1);
})) ∷ (tree.Defined
    (tree.specifier_then (tree.Word (at 8) keyword.Int) tree.no_specifiers) (tree.Empty (tree.Named
    (name 12 1)) (at 12)) (at 22) ([]) (tree.statement_then (tree.Evaluate (tree.Prefix (at 23)
    prefix.Indirection (tree.Identifier (name 24 0))) (at 23)) (tree.statement_then (tree.Return (at
    26) (Some (tree.Number (at 33) (constant 0 false))) (at 26)) tree.no_statements))) ∷ [])
    (start_of false false (record {
      printf = None;
      putchar = None;
      exit = None;
      abort = None;
      main =
          (Some 1);
    }) ([])) ≡ breach rule.BadDeref 23
unfolding shape_of layout_of same composite layout_at found_name found_tag own_entity own_tag found_component converted combination fits joined combined compared parameter_types ask_all
bad_deref_void = refl

-- int main(void){int a;a.b; return 0;}
not_structure : check ((tree.Defined (tree.specifier_then (tree.Word (at 1) keyword.Int)
    tree.no_specifiers) (tree.Empty (tree.Named (name 5 0)) (at 5)) (at 15) ((record {
      specifiers =
          (tree.specifier_then (tree.Word (at 16) keyword.Int) tree.no_specifiers);
      items = (record {
        declarator = (tree.Named (name 20 1));
        initialiser = None;
      } ∷ []);
      end = (at 16);
    }) ∷ [])
    (tree.statement_then (tree.Evaluate (tree.Member (tree.Identifier (name 22 1)) (at 22) signs.Dot
    (name 24 2)) (at 22)) (tree.statement_then (tree.Return (at 27) (Some (tree.Number (at 34)
    (constant 0 false))) (at 27)) tree.no_statements))) ∷ []) (start_of false false (record {
      printf
          = None;
      putchar = None;
      exit = None;
      abort = None;
      main = (Some 0);
    }) ([])) ≡ breach
    rule.NotStructure 22
unfolding shape_of layout_of same composite layout_at found_name found_tag own_entity own_tag found_component converted combination fits joined combined compared parameter_types ask_all
not_structure = refl

-- struct s{int a;}x;int main(void){x->a;return 0;}
not_structure_arrow : check ((tree.Declared (record {
  specifiers = (tree.specifier_then
      (tree.StructureBody (at 1) (Some (name 8 1)) (at 1) (tree.member_then (tree.specifier_then
      (tree.Word (at 10) keyword.Int) tree.no_specifiers) (tree.declarator_then (tree.Named (name 14
      2)) tree.no_declarators) (at 10) tree.no_members)) tree.no_specifiers);
  items = (record {
    declarator = (tree.Named (name 17 0));
    initialiser = None;
  } ∷ []);
  end = (at 1);
})) ∷
    (tree.Defined (tree.specifier_then (tree.Word (at 19) keyword.Int) tree.no_specifiers)
    (tree.Empty (tree.Named (name 23 3)) (at 23)) (at 33) ([]) (tree.statement_then (tree.Evaluate
    (tree.Member (tree.Identifier (name 34 0)) (at 34) signs.Arrow (name 37 2)) (at 34))
    (tree.statement_then (tree.Return (at 39) (Some (tree.Number (at 46) (constant 0 false))) (at
    39)) tree.no_statements))) ∷ []) (start_of false false (record {
      printf = None;
      putchar = None;
      exit = None;
      abort = None;
      main = (Some 3);
    }) ([])) ≡ breach rule.NotStructure 34
unfolding shape_of layout_of same composite layout_at found_name found_tag own_entity own_tag found_component converted combination fits joined combined compared parameter_types ask_all
not_structure_arrow = refl

-- struct s{int a;}x;int main(void){x.b;return 0;}
bad_member : check ((tree.Declared (record {
  specifiers = (tree.specifier_then (tree.StructureBody
      (at 1) (Some (name 8 1)) (at 1) (tree.member_then (tree.specifier_then (tree.Word (at 10)
      keyword.Int) tree.no_specifiers) (tree.declarator_then (tree.Named (name 14 2))
      tree.no_declarators) (at 10) tree.no_members)) tree.no_specifiers);
  items = (record {
    declarator
        = (tree.Named (name 17 0));
    initialiser = None;
  } ∷ []);
  end = (at 1);
})) ∷ (tree.Defined
    (tree.specifier_then (tree.Word (at 19) keyword.Int) tree.no_specifiers) (tree.Empty (tree.Named
    (name 23 3)) (at 23)) (at 33) ([]) (tree.statement_then (tree.Evaluate (tree.Member
    (tree.Identifier (name 34 0)) (at 34) signs.Dot (name 36 4)) (at 34)) (tree.statement_then
    (tree.Return (at 38) (Some (tree.Number (at 45) (constant 0 false))) (at 38))
    tree.no_statements))) ∷ []) (start_of false false (record {
      printf = None;
      putchar = None;
      exit
          = None;
      abort = None;
      main = (Some 3);
    }) ([])) ≡ breach rule.BadMember 34
unfolding shape_of layout_of same composite layout_at found_name found_tag own_entity own_tag found_component converted combination fits joined combined compared parameter_types ask_all
bad_member = refl

-- struct s{int a;}x;struct s y;int main(void){x=y;return 0;}
structure_value : check ((tree.Declared (record {
  specifiers = (tree.specifier_then
      (tree.StructureBody (at 1) (Some (name 8 1)) (at 1) (tree.member_then (tree.specifier_then
      (tree.Word (at 10) keyword.Int) tree.no_specifiers) (tree.declarator_then (tree.Named (name 14
      2)) tree.no_declarators) (at 10) tree.no_members)) tree.no_specifiers);
  items = (record {
    declarator = (tree.Named (name 17 0));
    initialiser = None;
  } ∷ []);
  end = (at 1);
})) ∷
    (tree.Declared (record {
      specifiers = (tree.specifier_then (tree.Structure (at 19) (name 26 1))
          tree.no_specifiers);
      items = (record {
        declarator = (tree.Named (name 28 3));
        initialiser = None;
      } ∷ []);
      end = (at 19);
    })) ∷ (tree.Defined (tree.specifier_then (tree.Word (at 30) keyword.Int)
    tree.no_specifiers) (tree.Empty (tree.Named (name 34 4)) (at 34)) (at 44) ([])
    (tree.statement_then (tree.Evaluate (tree.Assignment (tree.Identifier (name 45 0)) (at 45)
    assignment.Assign (tree.Identifier (name 47 3))) (at 45)) (tree.statement_then (tree.Return (at
    49) (Some (tree.Number (at 56) (constant 0 false))) (at 49)) tree.no_statements))) ∷ [])
    (start_of false false (record {
      printf = None;
      putchar = None;
      exit = None;
      abort = None;
      main =
          (Some 4);
    }) ([])) ≡ breach rule.StructureValue 45
unfolding shape_of layout_of same composite layout_at found_name found_tag own_entity own_tag found_component converted combination fits joined combined compared parameter_types ask_all
structure_value = refl

-- struct s{int a;};struct s f(void);
structure_result : check ((tree.Declared (record {
  specifiers = (tree.specifier_then
      (tree.StructureBody (at 1) (Some (name 8 0)) (at 1) (tree.member_then (tree.specifier_then
      (tree.Word (at 10) keyword.Int) tree.no_specifiers) (tree.declarator_then (tree.Named (name 14
      1)) tree.no_declarators) (at 10) tree.no_members)) tree.no_specifiers);
  items = ([]);
  end = (at
      1);
})) ∷ (tree.Declared (record {
  specifiers = (tree.specifier_then (tree.Structure (at 18)
      (name 25 0)) tree.no_specifiers);
  items = (record {
    declarator = (tree.Empty (tree.Named (name
        27 2)) (at 27));
    initialiser = None;
  } ∷ []);
  end = (at 18);
})) ∷ []) (start_of false false
    (record { printf = None; putchar = None; exit = None; abort = None; main = None }) ([])) ≡
    breach rule.StructureValue 27
unfolding shape_of layout_of same composite layout_at found_name found_tag own_entity own_tag found_component converted combination fits joined combined compared parameter_types ask_all
structure_result = refl

-- struct s{int a;};int f(struct s x);
structure_parameter : check ((tree.Declared (record {
  specifiers = (tree.specifier_then
      (tree.StructureBody (at 1) (Some (name 8 0)) (at 1) (tree.member_then (tree.specifier_then
      (tree.Word (at 10) keyword.Int) tree.no_specifiers) (tree.declarator_then (tree.Named (name 14
      1)) tree.no_declarators) (at 10) tree.no_members)) tree.no_specifiers);
  items = ([]);
  end = (at
      1);
})) ∷ (tree.Declared (record {
  specifiers = (tree.specifier_then (tree.Word (at 18)
      keyword.Int) tree.no_specifiers);
  items = (record {
    declarator = (tree.Function (tree.Named
        (name 22 3)) (at 22) (tree.parameter_then (tree.specifier_then (tree.Structure (at 24) (name 31
        0)) tree.no_specifiers) (tree.Named (name 33 2)) tree.no_parameters));
    initialiser = None;
  } ∷
      []);
  end = (at 18);
})) ∷ []) (start_of false false (record {
  printf = None;
  putchar = None;
  exit
      = None;
  abort = None;
  main = None;
}) ([])) ≡ breach rule.StructureValue 33
unfolding shape_of layout_of same composite layout_at found_name found_tag own_entity own_tag found_component converted combination fits joined combined compared parameter_types ask_all
structure_parameter = refl

-- struct s{int a;}x;int main(void){struct s y=x;return 0;}
structure_initial : check ((tree.Declared (record {
  specifiers = (tree.specifier_then
      (tree.StructureBody (at 1) (Some (name 8 1)) (at 1) (tree.member_then (tree.specifier_then
      (tree.Word (at 10) keyword.Int) tree.no_specifiers) (tree.declarator_then (tree.Named (name 14
      2)) tree.no_declarators) (at 10) tree.no_members)) tree.no_specifiers);
  items = (record {
    declarator = (tree.Named (name 17 0));
    initialiser = None;
  } ∷ []);
  end = (at 1);
})) ∷
    (tree.Defined (tree.specifier_then (tree.Word (at 19) keyword.Int) tree.no_specifiers)
    (tree.Empty (tree.Named (name 23 3)) (at 23)) (at 33) ((record {
      specifiers =
          (tree.specifier_then (tree.Structure (at 34) (name 41 1)) tree.no_specifiers);
      items = (record {
        declarator = (tree.Named (name 43 4));
        initialiser = Some (
          (at 45),
          (tree.Value (tree.Identifier
              (name 45 0))),
        );
      } ∷ []);
      end = (at 34);
    }) ∷ []) (tree.statement_then (tree.Return (at 47) (Some
    (tree.Number (at 54) (constant 0 false))) (at 47)) tree.no_statements)) ∷ []) (start_of false
    false (record { printf = None; putchar = None; exit = None; abort = None; main = (Some 3) })
    ([])) ≡ breach rule.StructureValue 45
unfolding shape_of layout_of same composite layout_at found_name found_tag own_entity own_tag found_component converted combination fits joined combined compared parameter_types ask_all
structure_initial = refl

-- int a;int main(void){a(1);return 0;}
bad_call : check ((tree.Declared (record {
  specifiers = (tree.specifier_then (tree.Word (at 1)
      keyword.Int) tree.no_specifiers);
  items = (record {
    declarator = (tree.Named (name 5 0));
    initialiser = None;
  } ∷ []);
  end = (at 1);
})) ∷ (tree.Defined (tree.specifier_then (tree.Word (at
    7) keyword.Int) tree.no_specifiers) (tree.Empty (tree.Named (name 11 1)) (at 11)) (at 21) ([])
    (tree.statement_then (tree.Evaluate (tree.Call (tree.Identifier (name 22 0)) (at 22)
    (tree.expression_then (tree.Number (at 24) (constant 1 false)) tree.no_expressions)) (at 22))
    (tree.statement_then (tree.Return (at 27) (Some (tree.Number (at 34) (constant 0 false))) (at
    27)) tree.no_statements))) ∷ []) (start_of false false (record {
      printf = None;
      putchar = None;
      exit = None;
      abort = None;
      main = (Some 1);
    }) ([])) ≡ breach rule.BadCall 22
unfolding shape_of layout_of same composite layout_at found_name found_tag own_entity own_tag found_component converted combination fits joined combined compared parameter_types ask_all
bad_call = refl

-- int f(int a);int main(void){f();return 0;}
argument_count : check ((tree.Declared (record {
  specifiers = (tree.specifier_then (tree.Word (at 1)
      keyword.Int) tree.no_specifiers);
  items = (record {
    declarator = (tree.Function (tree.Named
        (name 5 1)) (at 5) (tree.parameter_then (tree.specifier_then (tree.Word (at 7) keyword.Int)
        tree.no_specifiers) (tree.Named (name 11 0)) tree.no_parameters));
    initialiser = None;
  } ∷ []);
  end = (at 1);
})) ∷ (tree.Defined (tree.specifier_then (tree.Word (at 14) keyword.Int)
    tree.no_specifiers) (tree.Empty (tree.Named (name 18 2)) (at 18)) (at 28) ([])
    (tree.statement_then (tree.Evaluate (tree.Call (tree.Identifier (name 29 1)) (at 29)
    tree.no_expressions) (at 29)) (tree.statement_then (tree.Return (at 33) (Some (tree.Number (at
    40) (constant 0 false))) (at 33)) tree.no_statements))) ∷ []) (start_of false false (record {
      printf = None;
      putchar = None;
      exit = None;
      abort = None;
      main = (Some 2);
    }) ([])) ≡ breach
    rule.ArgumentCount 29
unfolding shape_of layout_of same composite layout_at found_name found_tag own_entity own_tag found_component converted combination fits joined combined compared parameter_types ask_all
argument_count = refl

-- int f(int*a);int main(void){f(1);return 0;}
bad_argument : check ((tree.Declared (record {
  specifiers = (tree.specifier_then (tree.Word (at 1)
      keyword.Int) tree.no_specifiers);
  items = (record {
    declarator = (tree.Function (tree.Named
        (name 5 1)) (at 5) (tree.parameter_then (tree.specifier_then (tree.Word (at 7) keyword.Int)
        tree.no_specifiers) (tree.Pointer (at 10) [] (tree.Named (name 11 0))) tree.no_parameters));
    initialiser = None;
  } ∷ []);
  end = (at 1);
})) ∷ (tree.Defined (tree.specifier_then (tree.Word (at
    14) keyword.Int) tree.no_specifiers) (tree.Empty (tree.Named (name 18 2)) (at 18)) (at 28) ([])
    (tree.statement_then (tree.Evaluate (tree.Call (tree.Identifier (name 29 1)) (at 29)
    (tree.expression_then (tree.Number (at 31) (constant 1 false)) tree.no_expressions)) (at 29))
    (tree.statement_then (tree.Return (at 34) (Some (tree.Number (at 41) (constant 0 false))) (at
    34)) tree.no_statements))) ∷ []) (start_of false false (record {
      printf = None;
      putchar = None;
      exit = None;
      abort = None;
      main = (Some 2);
    }) ([])) ≡ breach rule.BadArgument 31
unfolding shape_of layout_of same composite layout_at found_name found_tag own_entity own_tag found_component converted combination fits joined combined compared parameter_types ask_all
bad_argument = refl

-- void f(void){return 1;}
bad_return : check ((tree.Defined (tree.specifier_then (tree.Word (at 1) keyword.Void)
    tree.no_specifiers) (tree.Empty (tree.Named (name 6 0)) (at 6)) (at 13) ([])
    (tree.statement_then (tree.Return (at 14) (Some (tree.Number (at 21) (constant 1 false))) (at
    14)) tree.no_statements)) ∷ []) (start_of false false (record {
      printf = None;
      putchar = None;
      exit = None;
      abort = None;
      main = None;
    }) ([])) ≡ breach rule.BadReturn 14
unfolding shape_of layout_of same composite layout_at found_name found_tag own_entity own_tag found_component converted combination fits joined combined compared parameter_types ask_all
bad_return = refl

-- int*f(void){return 1;}
bad_return_value : check ((tree.Defined (tree.specifier_then (tree.Word (at 1) keyword.Int)
    tree.no_specifiers) (tree.Pointer (at 4) [] (tree.Empty (tree.Named (name 5 0)) (at 5))) (at 12)
    ([]) (tree.statement_then (tree.Return (at 13) (Some (tree.Number (at 20) (constant 1 false)))
    (at 13)) tree.no_statements)) ∷ []) (start_of false false (record {
      printf = None;
      putchar =
          None;
      exit = None;
      abort = None;
      main = None;
    }) ([])) ≡ breach rule.BadReturn 13
unfolding shape_of layout_of same composite layout_at found_name found_tag own_entity own_tag found_component converted combination fits joined combined compared parameter_types ask_all
bad_return_value = refl

-- int a;int b=a;
not_constant : check ((tree.Declared (record {
  specifiers = (tree.specifier_then (tree.Word (at 1)
      keyword.Int) tree.no_specifiers);
  items = (record {
    declarator = (tree.Named (name 5 0));
    initialiser = None;
  } ∷ []);
  end = (at 1);
})) ∷ (tree.Declared (record {
  specifiers =
      (tree.specifier_then (tree.Word (at 7) keyword.Int) tree.no_specifiers);
  items = (record {
    declarator = (tree.Named (name 11 1));
    initialiser = Some (
      (at 13),
      (tree.Value (tree.Identifier
          (name 13 0))),
    );
  } ∷ []);
  end = (at 7);
})) ∷ []) (start_of false false (record {
  printf = None;
  putchar = None;
  exit = None;
  abort = None;
  main = None;
}) ([])) ≡ breach rule.NotConstant 13
unfolding shape_of layout_of same composite layout_at found_name found_tag own_entity own_tag found_component converted combination fits joined combined compared parameter_types ask_all
not_constant = refl

-- int a;enum{B=a};
not_constant_enum : check ((tree.Declared (record {
  specifiers = (tree.specifier_then (tree.Word (at
      1) keyword.Int) tree.no_specifiers);
  items = (record {
    declarator = (tree.Named (name 5 0));
    initialiser = None;
  } ∷ []);
  end = (at 1);
})) ∷ (tree.Declared (record {
  specifiers =
      (tree.specifier_then (tree.EnumerationBody (at 7) None (at 7) (tree.valued_then (name 12 1) (at
      12) (tree.Identifier (name 14 0)) tree.no_enumerators) false) tree.no_specifiers);
  items = ([]);
  end = (at 7);
})) ∷ []) (start_of false false (record {
  printf = None;
  putchar = None;
  exit =
      None;
  abort = None;
  main = None;
}) ([])) ≡ breach rule.NotConstant 14
unfolding shape_of layout_of same composite layout_at found_name found_tag own_entity own_tag found_component converted combination fits joined combined compared parameter_types ask_all
not_constant_enum = refl

-- int main(void){int a;int b[2]={a}; return 0;}
not_constant_item : check ((tree.Defined (tree.specifier_then (tree.Word (at 1) keyword.Int)
    tree.no_specifiers) (tree.Empty (tree.Named (name 5 0)) (at 5)) (at 15) ((record {
      specifiers =
          (tree.specifier_then (tree.Word (at 16) keyword.Int) tree.no_specifiers);
      items = (record {
        declarator = (tree.Named (name 20 1));
        initialiser = None;
      } ∷ []);
      end = (at 16);
    }) ∷ (record {
      specifiers = (tree.specifier_then (tree.Word (at 22) keyword.Int) tree.no_specifiers);
      items =
          (record {
            declarator = (tree.Sized (tree.Named (name 26 2)) (at 26) (tree.Number (at 28)
                (constant 2 false)));
            initialiser = Some (
              (at 31),
              (tree.Listed (at 31) (tree.initialiser_then
                  (tree.Value (tree.Identifier (name 32 1))) tree.no_initialisers) false),
            );
          } ∷ []);
      end = (at 22);
    }) ∷ []) (tree.statement_then (tree.Return (at 36) (Some (tree.Number (at 43) (constant 0
    false))) (at 36)) tree.no_statements)) ∷ []) (start_of false false (record {
      printf = None;
      putchar = None;
      exit = None;
      abort = None;
      main = (Some 0);
    }) ([])) ≡ breach rule.NotConstant 32
unfolding shape_of layout_of same composite layout_at found_name found_tag own_entity own_tag found_component converted combination fits joined combined compared parameter_types ask_all
not_constant_item = refl

-- int a=1/0;
constant_division : check ((tree.Declared (record {
  specifiers = (tree.specifier_then (tree.Word (at
      1) keyword.Int) tree.no_specifiers);
  items = (record {
    declarator = (tree.Named (name 5 0));
    initialiser = Some (
      (at 7),
      (tree.Value (tree.Binary (tree.Number (at 7) (constant 1 false)) (at
          7) binary.Divide (tree.Number (at 9) (constant 0 false)))),
    );
  } ∷ []);
  end = (at 1);
})) ∷ [])
    (start_of false false (record {
      printf = None;
      putchar = None;
      exit = None;
      abort = None;
      main =
          None;
    }) ([])) ≡ breach rule.ConstantDivision 7
unfolding shape_of layout_of same composite layout_at found_name found_tag own_entity own_tag found_component converted combination fits joined combined compared parameter_types ask_all
constant_division = refl

-- enum{A=1%0};
constant_division_enum : check ((tree.Declared (record {
  specifiers = (tree.specifier_then
      (tree.EnumerationBody (at 1) None (at 1) (tree.valued_then (name 6 0) (at 6) (tree.Binary
      (tree.Number (at 8) (constant 1 false)) (at 8) binary.Remainder (tree.Number (at 10) (constant 0
      false))) tree.no_enumerators) false) tree.no_specifiers);
  items = ([]);
  end = (at 1);
})) ∷ [])
    (start_of false false (record {
      printf = None;
      putchar = None;
      exit = None;
      abort = None;
      main =
          None;
    }) ([])) ≡ breach rule.ConstantDivision 8
unfolding shape_of layout_of same composite layout_at found_name found_tag own_entity own_tag found_component converted combination fits joined combined compared parameter_types ask_all
constant_division_enum = refl

-- int a[2]=1;
bad_initialiser : check ((tree.Declared (record {
  specifiers = (tree.specifier_then (tree.Word (at
      1) keyword.Int) tree.no_specifiers);
  items = (record {
    declarator = (tree.Sized (tree.Named
        (name 5 0)) (at 5) (tree.Number (at 7) (constant 2 false)));
    initialiser = Some (
      (at 10),
      (tree.Value (tree.Number (at 10) (constant 1 false))),
    );
  } ∷ []);
  end = (at 1);
})) ∷ []) (start_of
    false false (record { printf = None; putchar = None; exit = None; abort = None; main = None })
    ([])) ≡ breach rule.BadInitialiser 10
unfolding shape_of layout_of same composite layout_at found_name found_tag own_entity own_tag found_component converted combination fits joined combined compared parameter_types ask_all
bad_initialiser = refl

-- int f(void)=1;
bad_initialiser_function : check ((tree.Declared (record {
  specifiers = (tree.specifier_then
      (tree.Word (at 1) keyword.Int) tree.no_specifiers);
  items = (record {
    declarator = (tree.Empty
        (tree.Named (name 5 0)) (at 5));
    initialiser = Some (
      (at 13),
      (tree.Value (tree.Number (at 13)
          (constant 1 false))),
    );
  } ∷ []);
  end = (at 1);
})) ∷ []) (start_of false false (record {
  printf =
      None;
  putchar = None;
  exit = None;
  abort = None;
  main = None;
}) ([])) ≡ breach
    rule.BadInitialiser 5
unfolding shape_of layout_of same composite layout_at found_name found_tag own_entity own_tag found_component converted combination fits joined combined compared parameter_types ask_all
bad_initialiser_function = refl

-- int a={1,2};
bad_initialiser_scalar : check ((tree.Declared (record {
  specifiers = (tree.specifier_then
      (tree.Word (at 1) keyword.Int) tree.no_specifiers);
  items = (record {
    declarator = (tree.Named
        (name 5 0));
    initialiser = Some (
      (at 7),
      (tree.Listed (at 7) (tree.initialiser_then (tree.Value
          (tree.Number (at 8) (constant 1 false))) (tree.initialiser_then (tree.Value (tree.Number (at 10)
          (constant 2 false))) tree.no_initialisers)) false),
    );
  } ∷ []);
  end = (at 1);
})) ∷ []) (start_of
    false false (record { printf = None; putchar = None; exit = None; abort = None; main = None })
    ([])) ≡ breach rule.BadInitialiser 7
unfolding shape_of layout_of same composite layout_at found_name found_tag own_entity own_tag found_component converted combination fits joined combined compared parameter_types ask_all
bad_initialiser_scalar = refl

-- int a[2]={1,2,3};
too_many : check ((tree.Declared (record {
  specifiers = (tree.specifier_then (tree.Word (at 1)
      keyword.Int) tree.no_specifiers);
  items = (record {
    declarator = (tree.Sized (tree.Named (name 5
        0)) (at 5) (tree.Number (at 7) (constant 2 false)));
    initialiser = Some (
      (at 10),
      (tree.Listed
          (at 10) (tree.initialiser_then (tree.Value (tree.Number (at 11) (constant 1 false)))
          (tree.initialiser_then (tree.Value (tree.Number (at 13) (constant 2 false)))
          (tree.initialiser_then (tree.Value (tree.Number (at 15) (constant 3 false)))
          tree.no_initialisers))) false),
    );
  } ∷ []);
  end = (at 1);
})) ∷ []) (start_of false false (record {
  printf = None;
  putchar = None;
  exit = None;
  abort = None;
  main = None;
}) ([])) ≡ breach
    rule.TooManyInitialisers 15
unfolding shape_of layout_of same composite layout_at found_name found_tag own_entity own_tag found_component converted combination fits joined combined compared parameter_types ask_all
too_many = refl

-- char a[2]="abc";
too_many_text : check ((tree.Declared (record {
  specifiers = (tree.specifier_then (tree.Word (at 1)
      keyword.Char) tree.no_specifiers);
  items = (record {
    declarator = (tree.Sized (tree.Named (name
        6 0)) (at 6) (tree.Number (at 8) (constant 2 false)));
    initialiser = Some (
      (at 11),
      (tree.Value
          (tree.Literal (at 11) 0)),
    );
  } ∷ []);
  end = (at 1);
})) ∷ []) (start_of false false (record {
  printf = None;
  putchar = None;
  exit = None;
  abort = None;
  main = None;
}) ((97 ∷ 98 ∷ 99 ∷ []) ∷
    [])) ≡ breach rule.TooManyInitialisers 11
unfolding shape_of layout_of same composite layout_at found_name found_tag own_entity own_tag found_component converted combination fits joined combined compared parameter_types ask_all
too_many_text = refl

-- struct s{int a;}x={1,2};
too_many_members : check ((tree.Declared (record {
  specifiers = (tree.specifier_then
      (tree.StructureBody (at 1) (Some (name 8 1)) (at 1) (tree.member_then (tree.specifier_then
      (tree.Word (at 10) keyword.Int) tree.no_specifiers) (tree.declarator_then (tree.Named (name 14
      2)) tree.no_declarators) (at 10) tree.no_members)) tree.no_specifiers);
  items = (record {
    declarator = (tree.Named (name 17 0));
    initialiser = Some (
      (at 19),
      (tree.Listed (at 19)
          (tree.initialiser_then (tree.Value (tree.Number (at 20) (constant 1 false)))
          (tree.initialiser_then (tree.Value (tree.Number (at 22) (constant 2 false)))
          tree.no_initialisers)) false),
    );
  } ∷ []);
  end = (at 1);
})) ∷ []) (start_of false false (record {
  printf = None;
  putchar = None;
  exit = None;
  abort = None;
  main = None;
}) ([])) ≡ breach
    rule.TooManyInitialisers 22
unfolding shape_of layout_of same composite layout_at found_name found_tag own_entity own_tag found_component converted combination fits joined combined compared parameter_types ask_all
too_many_members = refl

-- int main(void){break; return 0;}
loop_outside : check ((tree.Defined (tree.specifier_then (tree.Word (at 1) keyword.Int)
    tree.no_specifiers) (tree.Empty (tree.Named (name 5 0)) (at 5)) (at 15) ([])
    (tree.statement_then (tree.Break (at 16) (at 16)) (tree.statement_then (tree.Return (at 23)
    (Some (tree.Number (at 30) (constant 0 false))) (at 23)) tree.no_statements))) ∷ []) (start_of
    false false (record {
      printf = None;
      putchar = None;
      exit = None;
      abort = None;
      main = (Some 0);
    }) ([])) ≡ breach rule.LoopOutside 16
unfolding shape_of layout_of same composite layout_at found_name found_tag own_entity own_tag found_component converted combination fits joined combined compared parameter_types ask_all
loop_outside = refl

-- int main(void){continue; return 0;}
continue_outside : check ((tree.Defined (tree.specifier_then (tree.Word (at 1) keyword.Int)
    tree.no_specifiers) (tree.Empty (tree.Named (name 5 0)) (at 5)) (at 15) ([])
    (tree.statement_then (tree.Continue (at 16) (at 16)) (tree.statement_then (tree.Return (at 26)
    (Some (tree.Number (at 33) (constant 0 false))) (at 26)) tree.no_statements))) ∷ []) (start_of
    false false (record {
      printf = None;
      putchar = None;
      exit = None;
      abort = None;
      main = (Some 0);
    }) ([])) ≡ breach rule.LoopOutside 16
unfolding shape_of layout_of same composite layout_at found_name found_tag own_entity own_tag found_component converted combination fits joined combined compared parameter_types ask_all
continue_outside = refl

-- int main(void){switch(1){case 1:continue;} return 0;}
continue_switch : check ((tree.Defined (tree.specifier_then (tree.Word (at 1) keyword.Int)
    tree.no_specifiers) (tree.Empty (tree.Named (name 5 0)) (at 5)) (at 15) ([])
    (tree.statement_then (tree.Switch (at 16) (at 16) (tree.Number (at 23) (constant 1 false))
    (tree.Block (at 25) ([]) (tree.statement_then (tree.Case (at 26) (tree.Number (at 31) (constant
    1 false)) (tree.Continue (at 33) (at 33))) tree.no_statements))) (tree.statement_then
    (tree.Return (at 44) (Some (tree.Number (at 51) (constant 0 false))) (at 44))
    tree.no_statements))) ∷ []) (start_of false false (record {
      printf = None;
      putchar = None;
      exit
          = None;
      abort = None;
      main = (Some 0);
    }) ([])) ≡ breach rule.LoopOutside 33
unfolding shape_of layout_of same composite layout_at found_name found_tag own_entity own_tag found_component converted combination fits joined combined compared parameter_types ask_all
continue_switch = refl

-- struct s{static int a;};
storage_class : check ((tree.Declared (record {
  specifiers = (tree.specifier_then
      (tree.StructureBody (at 1) (Some (name 8 0)) (at 1) (tree.member_then (tree.specifier_then
      (tree.Word (at 10) keyword.Static) (tree.specifier_then (tree.Word (at 17) keyword.Int)
      tree.no_specifiers)) (tree.declarator_then (tree.Named (name 21 1)) tree.no_declarators) (at 10)
      tree.no_members)) tree.no_specifiers);
  items = ([]);
  end = (at 1);
})) ∷ []) (start_of false
    false (record { printf = None; putchar = None; exit = None; abort = None; main = None }) ([])) ≡
    breach rule.StorageClass 10
unfolding shape_of layout_of same composite layout_at found_name found_tag own_entity own_tag found_component converted combination fits joined combined compared parameter_types ask_all
storage_class = refl

-- int f(static int a);
storage_parameter : check ((tree.Declared (record {
  specifiers = (tree.specifier_then (tree.Word (at
      1) keyword.Int) tree.no_specifiers);
  items = (record {
    declarator = (tree.Function (tree.Named
        (name 5 1)) (at 5) (tree.parameter_then (tree.specifier_then (tree.Word (at 7) keyword.Static)
        (tree.specifier_then (tree.Word (at 14) keyword.Int) tree.no_specifiers)) (tree.Named (name 18
        0)) tree.no_parameters));
    initialiser = None;
  } ∷ []);
  end = (at 1);
})) ∷ []) (start_of false
    false (record { printf = None; putchar = None; exit = None; abort = None; main = None }) ([])) ≡
    breach rule.StorageClass 7
unfolding shape_of layout_of same composite layout_at found_name found_tag own_entity own_tag found_component converted combination fits joined combined compared parameter_types ask_all
storage_parameter = refl

-- int main(void){(register int)1; return 0;}
storage_name : check ((tree.Defined (tree.specifier_then (tree.Word (at 1) keyword.Int)
    tree.no_specifiers) (tree.Empty (tree.Named (name 5 0)) (at 5)) (at 15) ([])
    (tree.statement_then (tree.Evaluate (tree.Cast (at 16) (tree.specifier_then (tree.Word (at 17)
    keyword.Register) (tree.specifier_then (tree.Word (at 26) keyword.Int) tree.no_specifiers))
    tree.Absent (tree.Number (at 30) (constant 1 false))) (at 16)) (tree.statement_then (tree.Return
    (at 33) (Some (tree.Number (at 40) (constant 0 false))) (at 33)) tree.no_statements))) ∷ [])
    (start_of false false (record {
      printf = None;
      putchar = None;
      exit = None;
      abort = None;
      main =
          (Some 0);
    }) ([])) ≡ breach rule.StorageClass 17
unfolding shape_of layout_of same composite layout_at found_name found_tag own_entity own_tag found_component converted combination fits joined combined compared parameter_types ask_all
storage_name = refl

-- int main(void){static int a; return 0;}
block_storage : check ((tree.Defined (tree.specifier_then (tree.Word (at 1) keyword.Int)
    tree.no_specifiers) (tree.Empty (tree.Named (name 5 0)) (at 5)) (at 15) ((record {
      specifiers =
          (tree.specifier_then (tree.Word (at 16) keyword.Static) (tree.specifier_then (tree.Word (at 23)
          keyword.Int) tree.no_specifiers));
      items = (record {
        declarator = (tree.Named (name 27 1));
        initialiser = None;
      } ∷ []);
      end = (at 16);
    }) ∷ []) (tree.statement_then (tree.Return (at 30)
    (Some (tree.Number (at 37) (constant 0 false))) (at 30)) tree.no_statements)) ∷ []) (start_of
    false false (record {
      printf = None;
      putchar = None;
      exit = None;
      abort = None;
      main = (Some 0);
    }) ([])) ≡ breach rule.BlockStorage 16
unfolding shape_of layout_of same composite layout_at found_name found_tag own_entity own_tag found_component converted combination fits joined combined compared parameter_types ask_all
block_storage = refl

-- int main(void){int f(int); return 0;}
block_function : check ((tree.Defined (tree.specifier_then (tree.Word (at 1) keyword.Int)
    tree.no_specifiers) (tree.Empty (tree.Named (name 5 0)) (at 5)) (at 15) ((record {
      specifiers =
          (tree.specifier_then (tree.Word (at 16) keyword.Int) tree.no_specifiers);
      items = (record {
        declarator = (tree.Function (tree.Named (name 20 1)) (at 20) (tree.parameter_then
            (tree.specifier_then (tree.Word (at 22) keyword.Int) tree.no_specifiers) tree.Absent
            tree.no_parameters));
        initialiser = None;
      } ∷ []);
      end = (at 16);
    }) ∷ []) (tree.statement_then
    (tree.Return (at 28) (Some (tree.Number (at 35) (constant 0 false))) (at 28))
    tree.no_statements)) ∷ []) (start_of false false (record {
      printf = None;
      putchar = None;
      exit =
          None;
      abort = None;
      main = (Some 0);
    }) ([])) ≡ breach rule.BlockFunction 20
unfolding shape_of layout_of same composite layout_at found_name found_tag own_entity own_tag found_component converted combination fits joined combined compared parameter_types ask_all
block_function = refl

-- struct s{typedef int a;};
typedef_misuse : check ((tree.Declared (record {
  specifiers = (tree.specifier_then
      (tree.StructureBody (at 1) (Some (name 8 0)) (at 1) (tree.member_then (tree.specifier_then
      (tree.Word (at 10) keyword.Typedef) (tree.specifier_then (tree.Word (at 18) keyword.Int)
      tree.no_specifiers)) (tree.declarator_then (tree.Named (name 22 1)) tree.no_declarators) (at 10)
      tree.no_members)) tree.no_specifiers);
  items = ([]);
  end = (at 1);
})) ∷ []) (start_of false
    false (record { printf = None; putchar = None; exit = None; abort = None; main = None }) ([])) ≡
    breach rule.TypedefMisuse 10
unfolding shape_of layout_of same composite layout_at found_name found_tag own_entity own_tag found_component converted combination fits joined combined compared parameter_types ask_all
typedef_misuse = refl

-- typedef int a=1;
typedef_given : check ((tree.Declared (record {
  specifiers = (tree.specifier_then (tree.Word (at 1)
      keyword.Typedef) (tree.specifier_then (tree.Word (at 9) keyword.Int) tree.no_specifiers));
  items
      = (record {
        declarator = (tree.Named (name 13 0));
        initialiser = Some (
          (at 15),
          (tree.Value
              (tree.Number (at 15) (constant 1 false))),
        );
      } ∷ []);
  end = (at 1);
})) ∷ []) (start_of false false
    (record { printf = None; putchar = None; exit = None; abort = None; main = None }) ([])) ≡
    breach rule.TypedefMisuse 13
unfolding shape_of layout_of same composite layout_at found_name found_tag own_entity own_tag found_component converted combination fits joined combined compared parameter_types ask_all
typedef_given = refl

-- typedef int f(int);f g{return 0;}
typedef_function : check ((tree.Declared (record {
  specifiers = (tree.specifier_then (tree.Word (at
      1) keyword.Typedef) (tree.specifier_then (tree.Word (at 9) keyword.Int) tree.no_specifiers));
  items = (record {
    declarator = (tree.Function (tree.Named (name 13 0)) (at 13)
        (tree.parameter_then (tree.specifier_then (tree.Word (at 15) keyword.Int) tree.no_specifiers)
        tree.Absent tree.no_parameters));
    initialiser = None;
  } ∷ []);
  end = (at 1);
})) ∷ (tree.Defined
    (tree.specifier_then (tree.TypeName (name 20 0)) tree.no_specifiers) (tree.Named (name 22 1))
    (at 23) ([]) (tree.statement_then (tree.Return (at 24) (Some (tree.Number (at 31) (constant 0
    false))) (at 24)) tree.no_statements)) ∷ []) (start_of false false (record {
      printf = None;
      putchar = None;
      exit = None;
      abort = None;
      main = None;
    }) ([])) ≡ breach rule.TypedefMisuse 22
unfolding shape_of layout_of same composite layout_at found_name found_tag own_entity own_tag found_component converted combination fits joined combined compared parameter_types ask_all
typedef_function = refl

-- int f(int){return 0;}
parameter_name : check ((tree.Defined (tree.specifier_then (tree.Word (at 1) keyword.Int)
    tree.no_specifiers) (tree.Function (tree.Named (name 5 0)) (at 5) (tree.parameter_then
    (tree.specifier_then (tree.Word (at 7) keyword.Int) tree.no_specifiers) tree.Absent
    tree.no_parameters)) (at 11) ([]) (tree.statement_then (tree.Return (at 12) (Some (tree.Number
    (at 19) (constant 0 false))) (at 12)) tree.no_statements)) ∷ []) (start_of false false (record {
      printf = None;
      putchar = None;
      exit = None;
      abort = None;
      main = None;
    }) ([])) ≡ breach
    rule.ParameterName 7
unfolding shape_of layout_of same composite layout_at found_name found_tag own_entity own_tag found_component converted combination fits joined combined compared parameter_types ask_all
parameter_name = refl

-- with <stdio.h>: int main(void){printf("%q"); return 0;}
bad_format : check ((tree.Defined (tree.specifier_then (tree.Word (at 1) keyword.Int)
    tree.no_specifiers) (tree.Empty (tree.Named (name 5 0)) (at 5)) (at 15) ([])
    (tree.statement_then (tree.Evaluate (tree.Call (tree.Identifier (name 16 1)) (at 16)
    (tree.expression_then (tree.Literal (at 23) 0) tree.no_expressions)) (at 16))
    (tree.statement_then (tree.Return (at 30) (Some (tree.Number (at 37) (constant 0 false))) (at
    30)) tree.no_statements))) ∷ []) (start_of true false (record {
      printf = (Some 1);
      putchar =
          None;
      exit = None;
      abort = None;
      main = (Some 0);
    }) ((37 ∷ 113 ∷ []) ∷ [])) ≡ breach
    rule.BadFormat 23
unfolding shape_of layout_of same composite layout_at found_name found_tag own_entity own_tag found_component converted combination fits joined combined compared parameter_types ask_all
bad_format = refl

-- with <stdio.h>: int main(void){printf("%d"); return 0;}
bad_format_count : check ((tree.Defined (tree.specifier_then (tree.Word (at 1) keyword.Int)
    tree.no_specifiers) (tree.Empty (tree.Named (name 5 0)) (at 5)) (at 15) ([])
    (tree.statement_then (tree.Evaluate (tree.Call (tree.Identifier (name 16 1)) (at 16)
    (tree.expression_then (tree.Literal (at 23) 0) tree.no_expressions)) (at 16))
    (tree.statement_then (tree.Return (at 30) (Some (tree.Number (at 37) (constant 0 false))) (at
    30)) tree.no_statements))) ∷ []) (start_of true false (record {
      printf = (Some 1);
      putchar =
          None;
      exit = None;
      abort = None;
      main = (Some 0);
    }) ((37 ∷ 100 ∷ []) ∷ [])) ≡ breach
    rule.BadFormat 23
unfolding shape_of layout_of same composite layout_at found_name found_tag own_entity own_tag found_component converted combination fits joined combined compared parameter_types ask_all
bad_format_count = refl

-- with <stdio.h>: int main(void){printf("%s",1); return 0;}
bad_format_text : check ((tree.Defined (tree.specifier_then (tree.Word (at 1) keyword.Int)
    tree.no_specifiers) (tree.Empty (tree.Named (name 5 0)) (at 5)) (at 15) ([])
    (tree.statement_then (tree.Evaluate (tree.Call (tree.Identifier (name 16 1)) (at 16)
    (tree.expression_then (tree.Literal (at 23) 0) (tree.expression_then (tree.Number (at 28)
    (constant 1 false)) tree.no_expressions))) (at 16)) (tree.statement_then (tree.Return (at 32)
    (Some (tree.Number (at 39) (constant 0 false))) (at 32)) tree.no_statements))) ∷ []) (start_of
    true false (record {
      printf = (Some 1);
      putchar = None;
      exit = None;
      abort = None;
      main = (Some
          0);
    }) ((37 ∷ 115 ∷ []) ∷ [])) ≡ breach rule.BadFormat 28
unfolding shape_of layout_of same composite layout_at found_name found_tag own_entity own_tag found_component converted combination fits joined combined compared parameter_types ask_all
bad_format_text = refl

-- with <stdio.h>: int main(void){1+printf("a"); return 0;}
printf_place : check ((tree.Defined (tree.specifier_then (tree.Word (at 1) keyword.Int)
    tree.no_specifiers) (tree.Empty (tree.Named (name 5 0)) (at 5)) (at 15) ([])
    (tree.statement_then (tree.Evaluate (tree.Binary (tree.Number (at 16) (constant 1 false)) (at
    16) binary.Add (tree.Call (tree.Identifier (name 18 1)) (at 18) (tree.expression_then
    (tree.Literal (at 25) 0) tree.no_expressions))) (at 16)) (tree.statement_then (tree.Return (at
    31) (Some (tree.Number (at 38) (constant 0 false))) (at 31)) tree.no_statements))) ∷ [])
    (start_of true false (record {
      printf = (Some 1);
      putchar = None;
      exit = None;
      abort = None;
      main = (Some 0);
    }) ((97 ∷ []) ∷ [])) ≡ breach rule.PrintfPlace 18
unfolding shape_of layout_of same composite layout_at found_name found_tag own_entity own_tag found_component converted combination fits joined combined compared parameter_types ask_all
printf_place = refl

-- int main(int a){return 0;}
bad_main : check ((tree.Defined (tree.specifier_then (tree.Word (at 1) keyword.Int)
    tree.no_specifiers) (tree.Function (tree.Named (name 5 1)) (at 5) (tree.parameter_then
    (tree.specifier_then (tree.Word (at 10) keyword.Int) tree.no_specifiers) (tree.Named (name 14
    0)) tree.no_parameters)) (at 16) ([]) (tree.statement_then (tree.Return (at 17) (Some
    (tree.Number (at 24) (constant 0 false))) (at 17)) tree.no_statements)) ∷ []) (start_of false
    false (record { printf = None; putchar = None; exit = None; abort = None; main = (Some 1) })
    ([])) ≡ breach rule.BadMain 5
unfolding shape_of layout_of same composite layout_at found_name found_tag own_entity own_tag found_component converted combination fits joined combined compared parameter_types ask_all
bad_main = refl

-- char main(void){return 0;}
bad_main_result : check ((tree.Defined (tree.specifier_then (tree.Word (at 1) keyword.Char)
    tree.no_specifiers) (tree.Empty (tree.Named (name 6 0)) (at 6)) (at 16) ([])
    (tree.statement_then (tree.Return (at 17) (Some (tree.Number (at 24) (constant 0 false))) (at
    17)) tree.no_statements)) ∷ []) (start_of false false (record {
      printf = None;
      putchar = None;
      exit = None;
      abort = None;
      main = (Some 0);
    }) ([])) ≡ breach rule.BadMain 6
unfolding shape_of layout_of same composite layout_at found_name found_tag own_entity own_tag found_component converted combination fits joined combined compared parameter_types ask_all
bad_main_result = refl

-- int main(void){return main();}
main_called : check ((tree.Defined (tree.specifier_then (tree.Word (at 1) keyword.Int)
    tree.no_specifiers) (tree.Empty (tree.Named (name 5 0)) (at 5)) (at 15) ([])
    (tree.statement_then (tree.Return (at 16) (Some (tree.Call (tree.Identifier (name 23 0)) (at 23)
    tree.no_expressions)) (at 16)) tree.no_statements)) ∷ []) (start_of false false (record {
      printf
          = None;
      putchar = None;
      exit = None;
      abort = None;
      main = (Some 0);
    }) ([])) ≡ breach
    rule.MainCalled 23
unfolding shape_of layout_of same composite layout_at found_name found_tag own_entity own_tag found_component converted combination fits joined combined compared parameter_types ask_all
main_called = refl

-- int main(void){case 1:; return 0;}
case_outside : check ((tree.Defined (tree.specifier_then (tree.Word (at 1) keyword.Int)
    tree.no_specifiers) (tree.Empty (tree.Named (name 5 0)) (at 5)) (at 15) ([])
    (tree.statement_then (tree.Case (at 16) (tree.Number (at 21) (constant 1 false)) (tree.Nothing
    (at 23))) (tree.statement_then (tree.Return (at 25) (Some (tree.Number (at 32) (constant 0
    false))) (at 25)) tree.no_statements))) ∷ []) (start_of false false (record {
      printf = None;
      putchar = None;
      exit = None;
      abort = None;
      main = (Some 0);
    }) ([])) ≡ breach rule.CaseOutside 16
unfolding shape_of layout_of same composite layout_at found_name found_tag own_entity own_tag found_component converted combination fits joined combined compared parameter_types ask_all
case_outside = refl

-- int main(void){switch(1){case 1:case 1:;}return 0;}
case_duplicate : check ((tree.Defined (tree.specifier_then (tree.Word (at 1) keyword.Int)
    tree.no_specifiers) (tree.Empty (tree.Named (name 5 0)) (at 5)) (at 15) ([])
    (tree.statement_then (tree.Switch (at 16) (at 16) (tree.Number (at 23) (constant 1 false))
    (tree.Block (at 25) ([]) (tree.statement_then (tree.Case (at 26) (tree.Number (at 31) (constant
    1 false)) (tree.Case (at 33) (tree.Number (at 38) (constant 1 false)) (tree.Nothing (at 40))))
    tree.no_statements))) (tree.statement_then (tree.Return (at 42) (Some (tree.Number (at 49)
    (constant 0 false))) (at 42)) tree.no_statements))) ∷ []) (start_of false false (record {
      printf
          = None;
      putchar = None;
      exit = None;
      abort = None;
      main = (Some 0);
    }) ([])) ≡ breach
    rule.CaseDuplicate 33
unfolding shape_of layout_of same composite layout_at found_name found_tag own_entity own_tag found_component converted combination fits joined combined compared parameter_types ask_all
case_duplicate = refl

-- int main(void){switch(1){default:default:;}return 0;}
default_twice : check ((tree.Defined (tree.specifier_then (tree.Word (at 1) keyword.Int)
    tree.no_specifiers) (tree.Empty (tree.Named (name 5 0)) (at 5)) (at 15) ([])
    (tree.statement_then (tree.Switch (at 16) (at 16) (tree.Number (at 23) (constant 1 false))
    (tree.Block (at 25) ([]) (tree.statement_then (tree.Default (at 26) (tree.Default (at 34)
    (tree.Nothing (at 42)))) tree.no_statements))) (tree.statement_then (tree.Return (at 44) (Some
    (tree.Number (at 51) (constant 0 false))) (at 44)) tree.no_statements))) ∷ []) (start_of false
    false (record { printf = None; putchar = None; exit = None; abort = None; main = (Some 0) })
    ([])) ≡ breach rule.DefaultTwice 34
unfolding shape_of layout_of same composite layout_at found_name found_tag own_entity own_tag found_component converted combination fits joined combined compared parameter_types ask_all
default_twice = refl

-- int main(void){switch(1)break; return 0;}
switch_body : check ((tree.Defined (tree.specifier_then (tree.Word (at 1) keyword.Int)
    tree.no_specifiers) (tree.Empty (tree.Named (name 5 0)) (at 5)) (at 15) ([])
    (tree.statement_then (tree.Switch (at 16) (at 16) (tree.Number (at 23) (constant 1 false))
    (tree.Break (at 25) (at 25))) (tree.statement_then (tree.Return (at 32) (Some (tree.Number (at
    39) (constant 0 false))) (at 32)) tree.no_statements))) ∷ []) (start_of false false (record {
      printf = None;
      putchar = None;
      exit = None;
      abort = None;
      main = (Some 0);
    }) ([])) ≡ breach
    rule.SwitchBody 25
unfolding shape_of layout_of same composite layout_at found_name found_tag own_entity own_tag found_component converted combination fits joined combined compared parameter_types ask_all
switch_body = refl

-- int main(void){switch(1){int a;case 1:;} return 0;}
switch_declares : check ((tree.Defined (tree.specifier_then (tree.Word (at 1) keyword.Int)
    tree.no_specifiers) (tree.Empty (tree.Named (name 5 0)) (at 5)) (at 15) ([])
    (tree.statement_then (tree.Switch (at 16) (at 16) (tree.Number (at 23) (constant 1 false))
    (tree.Block (at 25) ((record {
      specifiers = (tree.specifier_then (tree.Word (at 26) keyword.Int)
          tree.no_specifiers);
      items = (record {
        declarator = (tree.Named (name 30 1));
        initialiser = None;
      } ∷ []);
      end = (at 26);
    }) ∷ []) (tree.statement_then (tree.Case (at 32) (tree.Number (at 37)
    (constant 1 false)) (tree.Nothing (at 39))) tree.no_statements))) (tree.statement_then
    (tree.Return (at 42) (Some (tree.Number (at 49) (constant 0 false))) (at 42))
    tree.no_statements))) ∷ []) (start_of false false (record {
      printf = None;
      putchar = None;
      exit
          = None;
      abort = None;
      main = (Some 0);
    }) ([])) ≡ breach rule.SwitchBody 26
unfolding shape_of layout_of same composite layout_at found_name found_tag own_entity own_tag found_component converted combination fits joined combined compared parameter_types ask_all
switch_declares = refl
