-- Files that break a rule, the first that a check meets: names, types and operands.
use Rattle.std.proofs.Common.{◌≡◌, [], ◌∷◌, Some, None, true, false, refl}
use Rattle.dae_tree.specs.declared.words.Keyword.TheVariants as keyword
use Rattle.dae_tree.specs.declared.operators.BinaryOperator.TheVariants as binary
use Rattle.dae_tree.specs.declared.operators.AssignmentOperator.TheVariants as assignment
use Rattle.dae_tree.specs.declared.operators.PrefixOperator.TheVariants as prefix
use Rattle.dae_tree.specs.declared.operators.PostfixOperator.TheVariants as postfix
use Rattle.dae_tree.specs.Trees as tree
use Rattle.dae_meaning.specs.Operations.{combined, compared}
use Rattle.dae_types_kinds.specs.declared.rules.Rule.TheVariants as rule
use Rattle.dae_types_kinds.specs.Tables.{found_name, found_tag, own_entity, own_tag, found_component}
use Rattle.dae_types_kinds.specs.Types.{shape_of, layout_of, same, composite, layout_at}
use Rattle.dae_types_kinds.specs.Values.{converted, combination, fits, joined}
use Rattle.dae_types_rules.specs.Plan.{ask_all}
use Rattle.dae_types_plans.specs.Steps.{parameter_types}
use Rattle.dae_types_file_plans.specs.Files.{start_of}
use Rattle.dae_types_plans_tests.proofs.Small.{at, name, constant, breach, check}

-- int main(void){a=1; return 0;}
undeclared : check ((tree.Defined (tree.specifier_then (tree.Word (at 1) keyword.Int)
    tree.no_specifiers) (tree.Empty (tree.Named (name 5 0)) (at 5)) (at 15) ([])
    (tree.statement_then (tree.Evaluate (tree.Assignment (tree.Identifier (name 16 1)) (at 16)
    assignment.Assign (tree.Number (at 18) (constant 1 false))) (at 16)) (tree.statement_then
    (tree.Return (at 21) (Some (tree.Number (at 28) (constant 0 false))) (at 21))
    tree.no_statements))) ∷ []) (start_of false false (record {
      printf = None;
      putchar = None;
      exit
          = None;
      abort = None;
      main = (Some 0);
    }) ([])) ≡ breach rule.Undeclared 16
unfolding shape_of layout_of same composite layout_at found_name found_tag own_entity own_tag found_component converted combination fits joined combined compared parameter_types ask_all
undeclared = refl

-- int main(void){f(1); return 0;}
undeclared_call : check ((tree.Defined (tree.specifier_then (tree.Word (at 1) keyword.Int)
    tree.no_specifiers) (tree.Empty (tree.Named (name 5 0)) (at 5)) (at 15) ([])
    (tree.statement_then (tree.Evaluate (tree.Call (tree.Identifier (name 16 1)) (at 16)
    (tree.expression_then (tree.Number (at 18) (constant 1 false)) tree.no_expressions)) (at 16))
    (tree.statement_then (tree.Return (at 22) (Some (tree.Number (at 29) (constant 0 false))) (at
    22)) tree.no_statements))) ∷ []) (start_of false false (record {
      printf = None;
      putchar = None;
      exit = None;
      abort = None;
      main = (Some 0);
    }) ([])) ≡ breach rule.Undeclared 16
unfolding shape_of layout_of same composite layout_at found_name found_tag own_entity own_tag found_component converted combination fits joined combined compared parameter_types ask_all
undeclared_call = refl

-- int main(void){int a;char a; return 0;}
redeclared : check ((tree.Defined (tree.specifier_then (tree.Word (at 1) keyword.Int)
    tree.no_specifiers) (tree.Empty (tree.Named (name 5 0)) (at 5)) (at 15) ((record {
      specifiers =
          (tree.specifier_then (tree.Word (at 16) keyword.Int) tree.no_specifiers);
      items = (record {
        declarator = (tree.Named (name 20 1));
        initialiser = None;
      } ∷ []);
      end = (at 16);
    }) ∷ (record {
      specifiers = (tree.specifier_then (tree.Word (at 22) keyword.Char) tree.no_specifiers);
      items =
          (record { declarator = (tree.Named (name 27 1)); initialiser = None } ∷ []);
      end = (at 22);
    }) ∷
    []) (tree.statement_then (tree.Return (at 30) (Some (tree.Number (at 37) (constant 0 false)))
    (at 30)) tree.no_statements)) ∷ []) (start_of false false (record {
      printf = None;
      putchar =
          None;
      exit = None;
      abort = None;
      main = (Some 0);
    }) ([])) ≡ breach rule.Redeclared 27
unfolding shape_of layout_of same composite layout_at found_name found_tag own_entity own_tag found_component converted combination fits joined combined compared parameter_types ask_all
redeclared = refl

-- int f(int a,int a);
redeclared_parameter : check ((tree.Declared (record {
  specifiers = (tree.specifier_then (tree.Word
      (at 1) keyword.Int) tree.no_specifiers);
  items = (record {
    declarator = (tree.Function
        (tree.Named (name 5 1)) (at 5) (tree.parameter_then (tree.specifier_then (tree.Word (at 7)
        keyword.Int) tree.no_specifiers) (tree.Named (name 11 0)) (tree.parameter_then
        (tree.specifier_then (tree.Word (at 13) keyword.Int) tree.no_specifiers) (tree.Named (name 17
        0)) tree.no_parameters)));
    initialiser = None;
  } ∷ []);
  end = (at 1);
})) ∷ []) (start_of false
    false (record { printf = None; putchar = None; exit = None; abort = None; main = None }) ([])) ≡
    breach rule.Redeclared 17
unfolding shape_of layout_of same composite layout_at found_name found_tag own_entity own_tag found_component converted combination fits joined combined compared parameter_types ask_all
redeclared_parameter = refl

-- struct s{int a;int a;};
redeclared_member : check ((tree.Declared (record {
  specifiers = (tree.specifier_then
      (tree.StructureBody (at 1) (Some (name 8 0)) (at 1) (tree.member_then (tree.specifier_then
      (tree.Word (at 10) keyword.Int) tree.no_specifiers) (tree.declarator_then (tree.Named (name 14
      1)) tree.no_declarators) (at 10) (tree.member_then (tree.specifier_then (tree.Word (at 16)
      keyword.Int) tree.no_specifiers) (tree.declarator_then (tree.Named (name 20 1))
      tree.no_declarators) (at 16) tree.no_members))) tree.no_specifiers);
  items = ([]);
  end = (at 1);
})) ∷ []) (start_of false false (record {
  printf = None;
  putchar = None;
  exit = None;
  abort =
      None;
  main = None;
}) ([])) ≡ breach rule.Redeclared 20
unfolding shape_of layout_of same composite layout_at found_name found_tag own_entity own_tag found_component converted combination fits joined combined compared parameter_types ask_all
redeclared_member = refl

-- int a;char a;
redeclared_file : check ((tree.Declared (record {
  specifiers = (tree.specifier_then (tree.Word (at
      1) keyword.Int) tree.no_specifiers);
  items = (record {
    declarator = (tree.Named (name 5 0));
    initialiser = None;
  } ∷ []);
  end = (at 1);
})) ∷ (tree.Declared (record {
  specifiers =
      (tree.specifier_then (tree.Word (at 7) keyword.Char) tree.no_specifiers);
  items = (record {
    declarator = (tree.Named (name 12 0));
    initialiser = None;
  } ∷ []);
  end = (at 7);
})) ∷ [])
    (start_of false false (record {
      printf = None;
      putchar = None;
      exit = None;
      abort = None;
      main =
          None;
    }) ([])) ≡ breach rule.Redeclared 12
unfolding shape_of layout_of same composite layout_at found_name found_tag own_entity own_tag found_component converted combination fits joined combined compared parameter_types ask_all
redeclared_file = refl

-- int a;static int a;
redeclared_static : check ((tree.Declared (record {
  specifiers = (tree.specifier_then (tree.Word (at
      1) keyword.Int) tree.no_specifiers);
  items = (record {
    declarator = (tree.Named (name 5 0));
    initialiser = None;
  } ∷ []);
  end = (at 1);
})) ∷ (tree.Declared (record {
  specifiers =
      (tree.specifier_then (tree.Word (at 7) keyword.Static) (tree.specifier_then (tree.Word (at 14)
      keyword.Int) tree.no_specifiers));
  items = (record {
    declarator = (tree.Named (name 18 0));
    initialiser = None;
  } ∷ []);
  end = (at 7);
})) ∷ []) (start_of false false (record {
  printf =
      None;
  putchar = None;
  exit = None;
  abort = None;
  main = None;
}) ([])) ≡ breach rule.Redeclared
    18
unfolding shape_of layout_of same composite layout_at found_name found_tag own_entity own_tag found_component converted combination fits joined combined compared parameter_types ask_all
redeclared_static = refl

-- enum{A,A};
redeclared_enumerator : check ((tree.Declared (record {
  specifiers = (tree.specifier_then
      (tree.EnumerationBody (at 1) None (at 1) (tree.plain_then (name 6 0) (tree.plain_then (name 8 0)
      tree.no_enumerators)) false) tree.no_specifiers);
  items = ([]);
  end = (at 1);
})) ∷ []) (start_of
    false false (record { printf = None; putchar = None; exit = None; abort = None; main = None })
    ([])) ≡ breach rule.Redeclared 8
unfolding shape_of layout_of same composite layout_at found_name found_tag own_entity own_tag found_component converted combination fits joined combined compared parameter_types ask_all
redeclared_enumerator = refl

-- int f(int a){int a;return 0;}
redeclared_body : check ((tree.Defined (tree.specifier_then (tree.Word (at 1) keyword.Int)
    tree.no_specifiers) (tree.Function (tree.Named (name 5 1)) (at 5) (tree.parameter_then
    (tree.specifier_then (tree.Word (at 7) keyword.Int) tree.no_specifiers) (tree.Named (name 11 0))
    tree.no_parameters)) (at 13) ((record {
      specifiers = (tree.specifier_then (tree.Word (at 14)
          keyword.Int) tree.no_specifiers);
      items = (record {
        declarator = (tree.Named (name 18 0));
        initialiser = None;
      } ∷ []);
      end = (at 14);
    }) ∷ []) (tree.statement_then (tree.Return (at 20)
    (Some (tree.Number (at 27) (constant 0 false))) (at 20)) tree.no_statements)) ∷ []) (start_of
    false false (record { printf = None; putchar = None; exit = None; abort = None; main = None })
    ([])) ≡ breach rule.Redeclared 18
unfolding shape_of layout_of same composite layout_at found_name found_tag own_entity own_tag found_component converted combination fits joined combined compared parameter_types ask_all
redeclared_body = refl

-- int f(int a);int f(char a);
redeclared_function : check ((tree.Declared (record {
  specifiers = (tree.specifier_then (tree.Word
      (at 1) keyword.Int) tree.no_specifiers);
  items = (record {
    declarator = (tree.Function
        (tree.Named (name 5 1)) (at 5) (tree.parameter_then (tree.specifier_then (tree.Word (at 7)
        keyword.Int) tree.no_specifiers) (tree.Named (name 11 0)) tree.no_parameters));
    initialiser =
        None;
  } ∷ []);
  end = (at 1);
})) ∷ (tree.Declared (record {
  specifiers = (tree.specifier_then
      (tree.Word (at 14) keyword.Int) tree.no_specifiers);
  items = (record {
    declarator =
        (tree.Function (tree.Named (name 18 1)) (at 18) (tree.parameter_then (tree.specifier_then
        (tree.Word (at 20) keyword.Char) tree.no_specifiers) (tree.Named (name 25 0))
        tree.no_parameters));
    initialiser = None;
  } ∷ []);
  end = (at 14);
})) ∷ []) (start_of false false
    (record { printf = None; putchar = None; exit = None; abort = None; main = None }) ([])) ≡
    breach rule.Redeclared 18
unfolding shape_of layout_of same composite layout_at found_name found_tag own_entity own_tag found_component converted combination fits joined combined compared parameter_types ask_all
redeclared_function = refl

-- int a=1;int a=2;
redefined : check ((tree.Declared (record {
  specifiers = (tree.specifier_then (tree.Word (at 1)
      keyword.Int) tree.no_specifiers);
  items = (record {
    declarator = (tree.Named (name 5 0));
    initialiser = Some ((at 7), (tree.Value (tree.Number (at 7) (constant 1 false))));
  } ∷ []);
  end =
      (at 1);
})) ∷ (tree.Declared (record {
  specifiers = (tree.specifier_then (tree.Word (at 9)
      keyword.Int) tree.no_specifiers);
  items = (record {
    declarator = (tree.Named (name 13 0));
    initialiser = Some ((at 15), (tree.Value (tree.Number (at 15) (constant 2 false))));
  } ∷ []);
  end
      = (at 9);
})) ∷ []) (start_of false false (record {
  printf = None;
  putchar = None;
  exit = None;
  abort = None;
  main = None;
}) ([])) ≡ breach rule.Redefined 13
unfolding shape_of layout_of same composite layout_at found_name found_tag own_entity own_tag found_component converted combination fits joined combined compared parameter_types ask_all
redefined = refl

-- int f(void){return 0;}int f(void){return 1;}
redefined_function : check ((tree.Defined (tree.specifier_then (tree.Word (at 1) keyword.Int)
    tree.no_specifiers) (tree.Empty (tree.Named (name 5 0)) (at 5)) (at 12) ([])
    (tree.statement_then (tree.Return (at 13) (Some (tree.Number (at 20) (constant 0 false))) (at
    13)) tree.no_statements)) ∷ (tree.Defined (tree.specifier_then (tree.Word (at 23) keyword.Int)
    tree.no_specifiers) (tree.Empty (tree.Named (name 27 0)) (at 27)) (at 34) ([])
    (tree.statement_then (tree.Return (at 35) (Some (tree.Number (at 42) (constant 1 false))) (at
    35)) tree.no_statements)) ∷ []) (start_of false false (record {
      printf = None;
      putchar = None;
      exit = None;
      abort = None;
      main = None;
    }) ([])) ≡ breach rule.Redefined 27
unfolding shape_of layout_of same composite layout_at found_name found_tag own_entity own_tag found_component converted combination fits joined combined compared parameter_types ask_all
redefined_function = refl

-- struct s{int a;};struct s{int b;};
redefined_tag : check ((tree.Declared (record {
  specifiers = (tree.specifier_then
      (tree.StructureBody (at 1) (Some (name 8 0)) (at 1) (tree.member_then (tree.specifier_then
      (tree.Word (at 10) keyword.Int) tree.no_specifiers) (tree.declarator_then (tree.Named (name 14
      1)) tree.no_declarators) (at 10) tree.no_members)) tree.no_specifiers);
  items = ([]);
  end = (at
      1);
})) ∷ (tree.Declared (record {
  specifiers = (tree.specifier_then (tree.StructureBody (at 18)
      (Some (name 25 0)) (at 18) (tree.member_then (tree.specifier_then (tree.Word (at 27)
      keyword.Int) tree.no_specifiers) (tree.declarator_then (tree.Named (name 31 2))
      tree.no_declarators) (at 27) tree.no_members)) tree.no_specifiers);
  items = ([]);
  end = (at 18);
})) ∷ []) (start_of false false (record {
  printf = None;
  putchar = None;
  exit = None;
  abort =
      None;
  main = None;
}) ([])) ≡ breach rule.Redefined 25
unfolding shape_of layout_of same composite layout_at found_name found_tag own_entity own_tag found_component converted combination fits joined combined compared parameter_types ask_all
redefined_tag = refl

-- struct s{int a;};enum s x;
tag_kind : check ((tree.Declared (record {
  specifiers = (tree.specifier_then (tree.StructureBody (at
      1) (Some (name 8 0)) (at 1) (tree.member_then (tree.specifier_then (tree.Word (at 10)
      keyword.Int) tree.no_specifiers) (tree.declarator_then (tree.Named (name 14 1))
      tree.no_declarators) (at 10) tree.no_members)) tree.no_specifiers);
  items = ([]);
  end = (at 1);
})) ∷ (tree.Declared (record {
  specifiers = (tree.specifier_then (tree.Enumeration (at 18) (name
      23 0)) tree.no_specifiers);
  items = (record {
    declarator = (tree.Named (name 25 2));
    initialiser
        = None;
  } ∷ []);
  end = (at 18);
})) ∷ []) (start_of false false (record {
  printf = None;
  putchar =
      None;
  exit = None;
  abort = None;
  main = None;
}) ([])) ≡ breach rule.TagKind 23
unfolding shape_of layout_of same composite layout_at found_name found_tag own_entity own_tag found_component converted combination fits joined combined compared parameter_types ask_all
tag_kind = refl

-- enum e{A};struct e{int a;};
tag_kind_body : check ((tree.Declared (record {
  specifiers = (tree.specifier_then
      (tree.EnumerationBody (at 1) (Some (name 6 0)) (at 1) (tree.plain_then (name 8 1)
      tree.no_enumerators) false) tree.no_specifiers);
  items = ([]);
  end = (at 1);
})) ∷ (tree.Declared
    (record {
      specifiers = (tree.specifier_then (tree.StructureBody (at 11) (Some (name 18 0)) (at
          11) (tree.member_then (tree.specifier_then (tree.Word (at 20) keyword.Int) tree.no_specifiers)
          (tree.declarator_then (tree.Named (name 24 2)) tree.no_declarators) (at 20) tree.no_members))
          tree.no_specifiers);
      items = ([]);
      end = (at 11);
    })) ∷ []) (start_of false false (record {
      printf = None;
      putchar = None;
      exit = None;
      abort = None;
      main = None;
    }) ([])) ≡ breach
    rule.TagKind 18
unfolding shape_of layout_of same composite layout_at found_name found_tag own_entity own_tag found_component converted combination fits joined combined compared parameter_types ask_all
tag_kind_body = refl

-- struct s x;int main(void){return 0;}
incomplete : check ((tree.Declared (record {
  specifiers = (tree.specifier_then (tree.Structure (at
      1) (name 8 1)) tree.no_specifiers);
  items = (record {
    declarator = (tree.Named (name 10 0));
    initialiser = None;
  } ∷ []);
  end = (at 1);
})) ∷ (tree.Defined (tree.specifier_then (tree.Word (at
    12) keyword.Int) tree.no_specifiers) (tree.Empty (tree.Named (name 16 2)) (at 16)) (at 26) ([])
    (tree.statement_then (tree.Return (at 27) (Some (tree.Number (at 34) (constant 0 false))) (at
    27)) tree.no_statements)) ∷ []) (start_of false false (record {
      printf = None;
      putchar = None;
      exit = None;
      abort = None;
      main = (Some 2);
    }) ([])) ≡ breach rule.Incomplete 10
unfolding shape_of layout_of same composite layout_at found_name found_tag own_entity own_tag found_component converted combination fits joined combined compared parameter_types ask_all
incomplete = refl

-- int main(void){struct s x; return 0;}
incomplete_local : check ((tree.Defined (tree.specifier_then (tree.Word (at 1) keyword.Int)
    tree.no_specifiers) (tree.Empty (tree.Named (name 5 0)) (at 5)) (at 15) ((record {
      specifiers =
          (tree.specifier_then (tree.Structure (at 16) (name 23 2)) tree.no_specifiers);
      items = (record {
        declarator = (tree.Named (name 25 1));
        initialiser = None;
      } ∷ []);
      end = (at 16);
    }) ∷ [])
    (tree.statement_then (tree.Return (at 28) (Some (tree.Number (at 35) (constant 0 false))) (at
    28)) tree.no_statements)) ∷ []) (start_of false false (record {
      printf = None;
      putchar = None;
      exit = None;
      abort = None;
      main = (Some 0);
    }) ([])) ≡ breach rule.Incomplete 25
unfolding shape_of layout_of same composite layout_at found_name found_tag own_entity own_tag found_component converted combination fits joined combined compared parameter_types ask_all
incomplete_local = refl

-- int a[];int main(void){return 0;}
incomplete_array : check ((tree.Declared (record {
  specifiers = (tree.specifier_then (tree.Word (at
      1) keyword.Int) tree.no_specifiers);
  items = (record {
    declarator = (tree.Unsized (tree.Named
        (name 5 0)) (at 5));
    initialiser = None;
  } ∷ []);
  end = (at 1);
})) ∷ (tree.Defined
    (tree.specifier_then (tree.Word (at 9) keyword.Int) tree.no_specifiers) (tree.Empty (tree.Named
    (name 13 1)) (at 13)) (at 23) ([]) (tree.statement_then (tree.Return (at 24) (Some (tree.Number
    (at 31) (constant 0 false))) (at 24)) tree.no_statements)) ∷ []) (start_of false false (record {
      printf = None;
      putchar = None;
      exit = None;
      abort = None;
      main = (Some 1);
    }) ([])) ≡ breach
    rule.Incomplete 5
unfolding shape_of layout_of same composite layout_at found_name found_tag own_entity own_tag found_component converted combination fits joined combined compared parameter_types ask_all
incomplete_array = refl

-- int main(void){sizeof(struct s); return 0;}
incomplete_sizeof : check ((tree.Defined (tree.specifier_then (tree.Word (at 1) keyword.Int)
    tree.no_specifiers) (tree.Empty (tree.Named (name 5 0)) (at 5)) (at 15) ([])
    (tree.statement_then (tree.Evaluate (tree.SizeofType (at 16) (at 16) (tree.specifier_then
    (tree.Structure (at 23) (name 30 1)) tree.no_specifiers) tree.Absent) (at 16))
    (tree.statement_then (tree.Return (at 34) (Some (tree.Number (at 41) (constant 0 false))) (at
    34)) tree.no_statements))) ∷ []) (start_of false false (record {
      printf = None;
      putchar = None;
      exit = None;
      abort = None;
      main = (Some 0);
    }) ([])) ≡ breach rule.Incomplete 16
unfolding shape_of layout_of same composite layout_at found_name found_tag own_entity own_tag found_component converted combination fits joined combined compared parameter_types ask_all
incomplete_sizeof = refl

-- int f(struct s*p){p+1;return 0;}
incomplete_add : check ((tree.Defined (tree.specifier_then (tree.Word (at 1) keyword.Int)
    tree.no_specifiers) (tree.Function (tree.Named (name 5 2)) (at 5) (tree.parameter_then
    (tree.specifier_then (tree.Structure (at 7) (name 14 0)) tree.no_specifiers) (tree.Pointer (at
    15) [] (tree.Named (name 16 1))) tree.no_parameters)) (at 18) ([]) (tree.statement_then
    (tree.Evaluate (tree.Binary (tree.Identifier (name 19 1)) (at 19) binary.Add (tree.Number (at
    21) (constant 1 false))) (at 19)) (tree.statement_then (tree.Return (at 23) (Some (tree.Number
    (at 30) (constant 0 false))) (at 23)) tree.no_statements))) ∷ []) (start_of false false (record
    { printf = None; putchar = None; exit = None; abort = None; main = None }) ([])) ≡ breach
    rule.Incomplete 19
unfolding shape_of layout_of same composite layout_at found_name found_tag own_entity own_tag found_component converted combination fits joined combined compared parameter_types ask_all
incomplete_add = refl

-- struct s a[2];
incomplete_element : check ((tree.Declared (record {
  specifiers = (tree.specifier_then
      (tree.Structure (at 1) (name 8 1)) tree.no_specifiers);
  items = (record {
    declarator =
        (tree.Sized (tree.Named (name 10 0)) (at 10) (tree.Number (at 12) (constant 2 false)));
    initialiser = None;
  } ∷ []);
  end = (at 1);
})) ∷ []) (start_of false false (record {
  printf =
      None;
  putchar = None;
  exit = None;
  abort = None;
  main = None;
}) ([])) ≡ breach rule.Incomplete
    10
unfolding shape_of layout_of same composite layout_at found_name found_tag own_entity own_tag found_component converted combination fits joined combined compared parameter_types ask_all
incomplete_element = refl

-- void x;
void_object : check ((tree.Declared (record {
  specifiers = (tree.specifier_then (tree.Word (at 1)
      keyword.Void) tree.no_specifiers);
  items = (record {
    declarator = (tree.Named (name 6 0));
    initialiser = None;
  } ∷ []);
  end = (at 1);
})) ∷ []) (start_of false false (record {
  printf =
      None;
  putchar = None;
  exit = None;
  abort = None;
  main = None;
}) ([])) ≡ breach rule.VoidObject 6
unfolding shape_of layout_of same composite layout_at found_name found_tag own_entity own_tag found_component converted combination fits joined combined compared parameter_types ask_all
void_object = refl

-- int main(void){void x; return 0;}
void_local : check ((tree.Defined (tree.specifier_then (tree.Word (at 1) keyword.Int)
    tree.no_specifiers) (tree.Empty (tree.Named (name 5 0)) (at 5)) (at 15) ((record {
      specifiers =
          (tree.specifier_then (tree.Word (at 16) keyword.Void) tree.no_specifiers);
      items = (record {
        declarator = (tree.Named (name 21 1));
        initialiser = None;
      } ∷ []);
      end = (at 16);
    }) ∷ [])
    (tree.statement_then (tree.Return (at 24) (Some (tree.Number (at 31) (constant 0 false))) (at
    24)) tree.no_statements)) ∷ []) (start_of false false (record {
      printf = None;
      putchar = None;
      exit = None;
      abort = None;
      main = (Some 0);
    }) ([])) ≡ breach rule.VoidObject 21
unfolding shape_of layout_of same composite layout_at found_name found_tag own_entity own_tag found_component converted combination fits joined combined compared parameter_types ask_all
void_local = refl

-- struct s{void a;};
void_member : check ((tree.Declared (record {
  specifiers = (tree.specifier_then (tree.StructureBody
      (at 1) (Some (name 8 0)) (at 1) (tree.member_then (tree.specifier_then (tree.Word (at 10)
      keyword.Void) tree.no_specifiers) (tree.declarator_then (tree.Named (name 15 1))
      tree.no_declarators) (at 10) tree.no_members)) tree.no_specifiers);
  items = ([]);
  end = (at 1);
})) ∷ []) (start_of false false (record {
  printf = None;
  putchar = None;
  exit = None;
  abort =
      None;
  main = None;
}) ([])) ≡ breach rule.VoidObject 15
unfolding shape_of layout_of same composite layout_at found_name found_tag own_entity own_tag found_component converted combination fits joined combined compared parameter_types ask_all
void_member = refl

-- int f(int a,void b);
void_parameter : check ((tree.Declared (record {
  specifiers = (tree.specifier_then (tree.Word (at 1)
      keyword.Int) tree.no_specifiers);
  items = (record {
    declarator = (tree.Function (tree.Named
        (name 5 2)) (at 5) (tree.parameter_then (tree.specifier_then (tree.Word (at 7) keyword.Int)
        tree.no_specifiers) (tree.Named (name 11 1)) (tree.parameter_then (tree.specifier_then
        (tree.Word (at 13) keyword.Void) tree.no_specifiers) (tree.Named (name 18 0))
        tree.no_parameters)));
    initialiser = None;
  } ∷ []);
  end = (at 1);
})) ∷ []) (start_of false false
    (record { printf = None; putchar = None; exit = None; abort = None; main = None }) ([])) ≡
    breach rule.VoidObject 18
unfolding shape_of layout_of same composite layout_at found_name found_tag own_entity own_tag found_component converted combination fits joined combined compared parameter_types ask_all
void_parameter = refl

-- int f(int)(int);
bad_function_type : check ((tree.Declared (record {
  specifiers = (tree.specifier_then (tree.Word (at
      1) keyword.Int) tree.no_specifiers);
  items = (record {
    declarator = (tree.Function
        (tree.Function (tree.Named (name 5 0)) (at 5) (tree.parameter_then (tree.specifier_then
        (tree.Word (at 7) keyword.Int) tree.no_specifiers) tree.Absent tree.no_parameters)) (at 5)
        (tree.parameter_then (tree.specifier_then (tree.Word (at 12) keyword.Int) tree.no_specifiers)
        tree.Absent tree.no_parameters));
    initialiser = None;
  } ∷ []);
  end = (at 1);
})) ∷ []) (start_of
    false false (record { printf = None; putchar = None; exit = None; abort = None; main = None })
    ([])) ≡ breach rule.BadFunctionType 5
unfolding shape_of layout_of same composite layout_at found_name found_tag own_entity own_tag found_component converted combination fits joined combined compared parameter_types ask_all
bad_function_type = refl

-- int a[2](int);
function_array : check ((tree.Declared (record {
  specifiers = (tree.specifier_then (tree.Word (at 1)
      keyword.Int) tree.no_specifiers);
  items = (record {
    declarator = (tree.Function (tree.Sized
        (tree.Named (name 5 0)) (at 5) (tree.Number (at 7) (constant 2 false))) (at 5)
        (tree.parameter_then (tree.specifier_then (tree.Word (at 10) keyword.Int) tree.no_specifiers)
        tree.Absent tree.no_parameters));
    initialiser = None;
  } ∷ []);
  end = (at 1);
})) ∷ []) (start_of
    false false (record { printf = None; putchar = None; exit = None; abort = None; main = None })
    ([])) ≡ breach rule.BadFunctionType 5
unfolding shape_of layout_of same composite layout_at found_name found_tag own_entity own_tag found_component converted combination fits joined combined compared parameter_types ask_all
function_array = refl

-- struct s{int f(int);};
function_member : check ((tree.Declared (record {
  specifiers = (tree.specifier_then
      (tree.StructureBody (at 1) (Some (name 8 0)) (at 1) (tree.member_then (tree.specifier_then
      (tree.Word (at 10) keyword.Int) tree.no_specifiers) (tree.declarator_then (tree.Function
      (tree.Named (name 14 1)) (at 14) (tree.parameter_then (tree.specifier_then (tree.Word (at 16)
      keyword.Int) tree.no_specifiers) tree.Absent tree.no_parameters)) tree.no_declarators) (at 10)
      tree.no_members)) tree.no_specifiers);
  items = ([]);
  end = (at 1);
})) ∷ []) (start_of false
    false (record { printf = None; putchar = None; exit = None; abort = None; main = None }) ([])) ≡
    breach rule.BadFunctionType 14
unfolding shape_of layout_of same composite layout_at found_name found_tag own_entity own_tag found_component converted combination fits joined combined compared parameter_types ask_all
function_member = refl

-- int x{return 0;}
not_a_function : check ((tree.Defined (tree.specifier_then (tree.Word (at 1) keyword.Int)
    tree.no_specifiers) (tree.Named (name 5 0)) (at 6) ([]) (tree.statement_then (tree.Return (at 7)
    (Some (tree.Number (at 14) (constant 0 false))) (at 7)) tree.no_statements)) ∷ []) (start_of
    false false (record { printf = None; putchar = None; exit = None; abort = None; main = None })
    ([])) ≡ breach rule.BadFunctionType 5
unfolding shape_of layout_of same composite layout_at found_name found_tag own_entity own_tag found_component converted combination fits joined combined compared parameter_types ask_all
not_a_function = refl

-- int(*p)(int);
function_pointer : check ((tree.Declared (record {
  specifiers = (tree.specifier_then (tree.Word (at
      1) keyword.Int) tree.no_specifiers);
  items = (record {
    declarator = (tree.Function (tree.Grouped
        (at 4) (tree.Pointer (at 5) [] (tree.Named (name 6 0)))) (at 4) (tree.parameter_then
        (tree.specifier_then (tree.Word (at 9) keyword.Int) tree.no_specifiers) tree.Absent
        tree.no_parameters));
    initialiser = None;
  } ∷ []);
  end = (at 1);
})) ∷ []) (start_of false false
    (record { printf = None; putchar = None; exit = None; abort = None; main = None }) ([])) ≡
    breach rule.FunctionPointer 6
unfolding shape_of layout_of same composite layout_at found_name found_tag own_entity own_tag found_component converted combination fits joined combined compared parameter_types ask_all
function_pointer = refl

-- int f(int g(int));
function_parameter : check ((tree.Declared (record {
  specifiers = (tree.specifier_then (tree.Word
      (at 1) keyword.Int) tree.no_specifiers);
  items = (record {
    declarator = (tree.Function
        (tree.Named (name 5 1)) (at 5) (tree.parameter_then (tree.specifier_then (tree.Word (at 7)
        keyword.Int) tree.no_specifiers) (tree.Function (tree.Named (name 11 0)) (at 11)
        (tree.parameter_then (tree.specifier_then (tree.Word (at 13) keyword.Int) tree.no_specifiers)
        tree.Absent tree.no_parameters)) tree.no_parameters));
    initialiser = None;
  } ∷ []);
  end = (at 1);
})) ∷ []) (start_of false false (record {
  printf = None;
  putchar = None;
  exit = None;
  abort =
      None;
  main = None;
}) ([])) ≡ breach rule.FunctionPointer 11
unfolding shape_of layout_of same composite layout_at found_name found_tag own_entity own_tag found_component converted combination fits joined combined compared parameter_types ask_all
function_parameter = refl

-- int f(int a){return f+1;}
function_value : check ((tree.Defined (tree.specifier_then (tree.Word (at 1) keyword.Int)
    tree.no_specifiers) (tree.Function (tree.Named (name 5 1)) (at 5) (tree.parameter_then
    (tree.specifier_then (tree.Word (at 7) keyword.Int) tree.no_specifiers) (tree.Named (name 11 0))
    tree.no_parameters)) (at 13) ([]) (tree.statement_then (tree.Return (at 14) (Some (tree.Binary
    (tree.Identifier (name 21 1)) (at 21) binary.Add (tree.Number (at 23) (constant 1 false)))) (at
    14)) tree.no_statements)) ∷ []) (start_of false false (record {
      printf = None;
      putchar = None;
      exit = None;
      abort = None;
      main = None;
    }) ([])) ≡ breach rule.FunctionValue 21
unfolding shape_of layout_of same composite layout_at found_name found_tag own_entity own_tag found_component converted combination fits joined combined compared parameter_types ask_all
function_value = refl

-- int a[0];
bad_size : check ((tree.Declared (record {
  specifiers = (tree.specifier_then (tree.Word (at 1)
      keyword.Int) tree.no_specifiers);
  items = (record {
    declarator = (tree.Sized (tree.Named (name 5
        0)) (at 5) (tree.Number (at 7) (constant 0 false)));
    initialiser = None;
  } ∷ []);
  end = (at 1);
})) ∷ []) (start_of false false (record {
  printf = None;
  putchar = None;
  exit = None;
  abort =
      None;
  main = None;
}) ([])) ≡ breach rule.BadSize 7
unfolding shape_of layout_of same composite layout_at found_name found_tag own_entity own_tag found_component converted combination fits joined combined compared parameter_types ask_all
bad_size = refl

-- int a[-1];
negative_size : check ((tree.Declared (record {
  specifiers = (tree.specifier_then (tree.Word (at 1)
      keyword.Int) tree.no_specifiers);
  items = (record {
    declarator = (tree.Sized (tree.Named (name 5
        0)) (at 5) (tree.Prefix (at 7) prefix.Minus (tree.Number (at 8) (constant 1 false))));
    initialiser = None;
  } ∷ []);
  end = (at 1);
})) ∷ []) (start_of false false (record {
  printf =
      None;
  putchar = None;
  exit = None;
  abort = None;
  main = None;
}) ([])) ≡ breach rule.BadSize 7
unfolding shape_of layout_of same composite layout_at found_name found_tag own_entity own_tag found_component converted combination fits joined combined compared parameter_types ask_all
negative_size = refl

-- int f(int n){int a[n];return 0;}
variable_size : check ((tree.Defined (tree.specifier_then (tree.Word (at 1) keyword.Int)
    tree.no_specifiers) (tree.Function (tree.Named (name 5 1)) (at 5) (tree.parameter_then
    (tree.specifier_then (tree.Word (at 7) keyword.Int) tree.no_specifiers) (tree.Named (name 11 0))
    tree.no_parameters)) (at 13) ((record {
      specifiers = (tree.specifier_then (tree.Word (at 14)
          keyword.Int) tree.no_specifiers);
      items = (record {
        declarator = (tree.Sized (tree.Named (name
            18 2)) (at 18) (tree.Identifier (name 20 0)));
        initialiser = None;
      } ∷ []);
      end = (at 14);
    }) ∷
    []) (tree.statement_then (tree.Return (at 23) (Some (tree.Number (at 30) (constant 0 false)))
    (at 23)) tree.no_statements)) ∷ []) (start_of false false (record {
      printf = None;
      putchar =
          None;
      exit = None;
      abort = None;
      main = None;
    }) ([])) ≡ breach rule.BadSize 20
unfolding shape_of layout_of same composite layout_at found_name found_tag own_entity own_tag found_component converted combination fits joined combined compared parameter_types ask_all
variable_size = refl

-- char a[4294967295u];
unsigned_size : check ((tree.Declared (record {
  specifiers = (tree.specifier_then (tree.Word (at 1)
      keyword.Char) tree.no_specifiers);
  items = (record {
    declarator = (tree.Sized (tree.Named (name
        6 0)) (at 6) (tree.Number (at 8) (constant 4294967295 true)));
    initialiser = None;
  } ∷ []);
  end =
      (at 1);
})) ∷ []) (start_of false false (record {
  printf = None;
  putchar = None;
  exit = None;
  abort = None;
  main = None;
}) ([])) ≡ breach rule.ObjectTooLarge 6
unfolding shape_of layout_of same composite layout_at found_name found_tag own_entity own_tag found_component converted combination fits joined combined compared parameter_types ask_all
unsigned_size = refl

-- char a[67108865];
too_large : check ((tree.Declared (record {
  specifiers = (tree.specifier_then (tree.Word (at 1)
      keyword.Char) tree.no_specifiers);
  items = (record {
    declarator = (tree.Sized (tree.Named (name
        6 0)) (at 6) (tree.Number (at 8) (constant 67108865 false)));
    initialiser = None;
  } ∷ []);
  end =
      (at 1);
})) ∷ []) (start_of false false (record {
  printf = None;
  putchar = None;
  exit = None;
  abort = None;
  main = None;
}) ([])) ≡ breach rule.ObjectTooLarge 6
unfolding shape_of layout_of same composite layout_at found_name found_tag own_entity own_tag found_component converted combination fits joined combined compared parameter_types ask_all
too_large = refl

-- struct s{char a[67108864];char b;};
too_large_structure : check ((tree.Declared (record {
  specifiers = (tree.specifier_then
      (tree.StructureBody (at 1) (Some (name 8 0)) (at 1) (tree.member_then (tree.specifier_then
      (tree.Word (at 10) keyword.Char) tree.no_specifiers) (tree.declarator_then (tree.Sized
      (tree.Named (name 15 2)) (at 15) (tree.Number (at 17) (constant 67108864 false)))
      tree.no_declarators) (at 10) (tree.member_then (tree.specifier_then (tree.Word (at 27)
      keyword.Char) tree.no_specifiers) (tree.declarator_then (tree.Named (name 32 1))
      tree.no_declarators) (at 27) tree.no_members))) tree.no_specifiers);
  items = ([]);
  end = (at 1);
})) ∷ []) (start_of false false (record {
  printf = None;
  putchar = None;
  exit = None;
  abort =
      None;
  main = None;
}) ([])) ≡ breach rule.ObjectTooLarge 1
unfolding shape_of layout_of same composite layout_at found_name found_tag own_entity own_tag found_component converted combination fits joined combined compared parameter_types ask_all
too_large_structure = refl

-- char a[2][67108864];
too_large_initialiser : check ((tree.Declared (record {
  specifiers = (tree.specifier_then (tree.Word
      (at 1) keyword.Char) tree.no_specifiers);
  items = (record {
    declarator = (tree.Sized (tree.Sized
        (tree.Named (name 6 0)) (at 6) (tree.Number (at 8) (constant 2 false))) (at 6) (tree.Number (at
        11) (constant 67108864 false)));
    initialiser = None;
  } ∷ []);
  end = (at 1);
})) ∷ []) (start_of
    false false (record { printf = None; putchar = None; exit = None; abort = None; main = None })
    ([])) ≡ breach rule.ObjectTooLarge 6
unfolding shape_of layout_of same composite layout_at found_name found_tag own_entity own_tag found_component converted combination fits joined combined compared parameter_types ask_all
too_large_initialiser = refl

-- int main(void){1=2; return 0;}
not_lvalue : check ((tree.Defined (tree.specifier_then (tree.Word (at 1) keyword.Int)
    tree.no_specifiers) (tree.Empty (tree.Named (name 5 0)) (at 5)) (at 15) ([])
    (tree.statement_then (tree.Evaluate (tree.Assignment (tree.Number (at 16) (constant 1 false))
    (at 16) assignment.Assign (tree.Number (at 18) (constant 2 false))) (at 16))
    (tree.statement_then (tree.Return (at 21) (Some (tree.Number (at 28) (constant 0 false))) (at
    21)) tree.no_statements))) ∷ []) (start_of false false (record {
      printf = None;
      putchar = None;
      exit = None;
      abort = None;
      main = (Some 0);
    }) ([])) ≡ breach rule.NotLvalue 16
unfolding shape_of layout_of same composite layout_at found_name found_tag own_entity own_tag found_component converted combination fits joined combined compared parameter_types ask_all
not_lvalue = refl

-- int main(void){&1; return 0;}
not_lvalue_address : check ((tree.Defined (tree.specifier_then (tree.Word (at 1) keyword.Int)
    tree.no_specifiers) (tree.Empty (tree.Named (name 5 0)) (at 5)) (at 15) ([])
    (tree.statement_then (tree.Evaluate (tree.Prefix (at 16) prefix.Address (tree.Number (at 17)
    (constant 1 false))) (at 16)) (tree.statement_then (tree.Return (at 20) (Some (tree.Number (at
    27) (constant 0 false))) (at 20)) tree.no_statements))) ∷ []) (start_of false false (record {
      printf = None;
      putchar = None;
      exit = None;
      abort = None;
      main = (Some 0);
    }) ([])) ≡ breach
    rule.NotLvalue 16
unfolding shape_of layout_of same composite layout_at found_name found_tag own_entity own_tag found_component converted combination fits joined combined compared parameter_types ask_all
not_lvalue_address = refl

-- int main(void){1++; return 0;}
not_lvalue_step : check ((tree.Defined (tree.specifier_then (tree.Word (at 1) keyword.Int)
    tree.no_specifiers) (tree.Empty (tree.Named (name 5 0)) (at 5)) (at 15) ([])
    (tree.statement_then (tree.Evaluate (tree.Postfix (tree.Number (at 16) (constant 1 false)) (at
    16) postfix.Increment) (at 16)) (tree.statement_then (tree.Return (at 21) (Some (tree.Number (at
    28) (constant 0 false))) (at 21)) tree.no_statements))) ∷ []) (start_of false false (record {
      printf = None;
      putchar = None;
      exit = None;
      abort = None;
      main = (Some 0);
    }) ([])) ≡ breach
    rule.NotLvalue 16
unfolding shape_of layout_of same composite layout_at found_name found_tag own_entity own_tag found_component converted combination fits joined combined compared parameter_types ask_all
not_lvalue_step = refl

-- int a[2];int b[2];int main(void){a=b;return 0;}
not_modifiable : check ((tree.Declared (record {
  specifiers = (tree.specifier_then (tree.Word (at 1)
      keyword.Int) tree.no_specifiers);
  items = (record {
    declarator = (tree.Sized (tree.Named (name 5
        0)) (at 5) (tree.Number (at 7) (constant 2 false)));
    initialiser = None;
  } ∷ []);
  end = (at 1);
})) ∷ (tree.Declared (record {
  specifiers = (tree.specifier_then (tree.Word (at 10) keyword.Int)
      tree.no_specifiers);
  items = (record {
    declarator = (tree.Sized (tree.Named (name 14 1)) (at 14)
        (tree.Number (at 16) (constant 2 false)));
    initialiser = None;
  } ∷ []);
  end = (at 10);
})) ∷
    (tree.Defined (tree.specifier_then (tree.Word (at 19) keyword.Int) tree.no_specifiers)
    (tree.Empty (tree.Named (name 23 2)) (at 23)) (at 33) ([]) (tree.statement_then (tree.Evaluate
    (tree.Assignment (tree.Identifier (name 34 0)) (at 34) assignment.Assign (tree.Identifier (name
    36 1))) (at 34)) (tree.statement_then (tree.Return (at 38) (Some (tree.Number (at 45) (constant
    0 false))) (at 38)) tree.no_statements))) ∷ []) (start_of false false (record {
      printf = None;
      putchar = None;
      exit = None;
      abort = None;
      main = (Some 2);
    }) ([])) ≡ breach rule.NotModifiable
    34
unfolding shape_of layout_of same composite layout_at found_name found_tag own_entity own_tag found_component converted combination fits joined combined compared parameter_types ask_all
not_modifiable = refl

-- int a[2];int main(void){a++;return 0;}
not_modifiable_step : check ((tree.Declared (record {
  specifiers = (tree.specifier_then (tree.Word
      (at 1) keyword.Int) tree.no_specifiers);
  items = (record {
    declarator = (tree.Sized (tree.Named
        (name 5 0)) (at 5) (tree.Number (at 7) (constant 2 false)));
    initialiser = None;
  } ∷ []);
  end =
      (at 1);
})) ∷ (tree.Defined (tree.specifier_then (tree.Word (at 10) keyword.Int)
    tree.no_specifiers) (tree.Empty (tree.Named (name 14 1)) (at 14)) (at 24) ([])
    (tree.statement_then (tree.Evaluate (tree.Postfix (tree.Identifier (name 25 0)) (at 25)
    postfix.Increment) (at 25)) (tree.statement_then (tree.Return (at 29) (Some (tree.Number (at 36)
    (constant 0 false))) (at 29)) tree.no_statements))) ∷ []) (start_of false false (record {
      printf
          = None;
      putchar = None;
      exit = None;
      abort = None;
      main = (Some 1);
    }) ([])) ≡ breach
    rule.NotModifiable 25
unfolding shape_of layout_of same composite layout_at found_name found_tag own_entity own_tag found_component converted combination fits joined combined compared parameter_types ask_all
not_modifiable_step = refl

-- struct s{int a;}x;int main(void){if(x)return 1;return 0;}
not_scalar : check ((tree.Declared (record {
  specifiers = (tree.specifier_then (tree.StructureBody
      (at 1) (Some (name 8 1)) (at 1) (tree.member_then (tree.specifier_then (tree.Word (at 10)
      keyword.Int) tree.no_specifiers) (tree.declarator_then (tree.Named (name 14 2))
      tree.no_declarators) (at 10) tree.no_members)) tree.no_specifiers);
  items = (record {
    declarator
        = (tree.Named (name 17 0));
    initialiser = None;
  } ∷ []);
  end = (at 1);
})) ∷ (tree.Defined
    (tree.specifier_then (tree.Word (at 19) keyword.Int) tree.no_specifiers) (tree.Empty (tree.Named
    (name 23 3)) (at 23)) (at 33) ([]) (tree.statement_then (tree.If (at 34) (at 34)
    (tree.Identifier (name 37 0)) (tree.Return (at 39) (Some (tree.Number (at 46) (constant 1
    false))) (at 39))) (tree.statement_then (tree.Return (at 48) (Some (tree.Number (at 55)
    (constant 0 false))) (at 48)) tree.no_statements))) ∷ []) (start_of false false (record {
      printf
          = None;
      putchar = None;
      exit = None;
      abort = None;
      main = (Some 3);
    }) ([])) ≡ breach
    rule.NotScalar 37
unfolding shape_of layout_of same composite layout_at found_name found_tag own_entity own_tag found_component converted combination fits joined combined compared parameter_types ask_all
not_scalar = refl

-- struct s{int a;}x;int main(void){!x;return 0;}
not_scalar_not : check ((tree.Declared (record {
  specifiers = (tree.specifier_then
      (tree.StructureBody (at 1) (Some (name 8 1)) (at 1) (tree.member_then (tree.specifier_then
      (tree.Word (at 10) keyword.Int) tree.no_specifiers) (tree.declarator_then (tree.Named (name 14
      2)) tree.no_declarators) (at 10) tree.no_members)) tree.no_specifiers);
  items = (record {
    declarator = (tree.Named (name 17 0));
    initialiser = None;
  } ∷ []);
  end = (at 1);
})) ∷
    (tree.Defined (tree.specifier_then (tree.Word (at 19) keyword.Int) tree.no_specifiers)
    (tree.Empty (tree.Named (name 23 3)) (at 23)) (at 33) ([]) (tree.statement_then (tree.Evaluate
    (tree.Prefix (at 34) prefix.Not (tree.Identifier (name 35 0))) (at 34)) (tree.statement_then
    (tree.Return (at 37) (Some (tree.Number (at 44) (constant 0 false))) (at 37))
    tree.no_statements))) ∷ []) (start_of false false (record {
      printf = None;
      putchar = None;
      exit
          = None;
      abort = None;
      main = (Some 3);
    }) ([])) ≡ breach rule.NotScalar 34
unfolding shape_of layout_of same composite layout_at found_name found_tag own_entity own_tag found_component converted combination fits joined combined compared parameter_types ask_all
not_scalar_not = refl

-- struct s{int a;}x;int main(void){x++;return 0;}
not_scalar_step : check ((tree.Declared (record {
  specifiers = (tree.specifier_then
      (tree.StructureBody (at 1) (Some (name 8 1)) (at 1) (tree.member_then (tree.specifier_then
      (tree.Word (at 10) keyword.Int) tree.no_specifiers) (tree.declarator_then (tree.Named (name 14
      2)) tree.no_declarators) (at 10) tree.no_members)) tree.no_specifiers);
  items = (record {
    declarator = (tree.Named (name 17 0));
    initialiser = None;
  } ∷ []);
  end = (at 1);
})) ∷
    (tree.Defined (tree.specifier_then (tree.Word (at 19) keyword.Int) tree.no_specifiers)
    (tree.Empty (tree.Named (name 23 3)) (at 23)) (at 33) ([]) (tree.statement_then (tree.Evaluate
    (tree.Postfix (tree.Identifier (name 34 0)) (at 34) postfix.Increment) (at 34))
    (tree.statement_then (tree.Return (at 38) (Some (tree.Number (at 45) (constant 0 false))) (at
    38)) tree.no_statements))) ∷ []) (start_of false false (record {
      printf = None;
      putchar = None;
      exit = None;
      abort = None;
      main = (Some 3);
    }) ([])) ≡ breach rule.NotScalar 34
unfolding shape_of layout_of same composite layout_at found_name found_tag own_entity own_tag found_component converted combination fits joined combined compared parameter_types ask_all
not_scalar_step = refl

-- struct s{int a;}x;int main(void){1&&x;return 0;}
not_scalar_and : check ((tree.Declared (record {
  specifiers = (tree.specifier_then
      (tree.StructureBody (at 1) (Some (name 8 1)) (at 1) (tree.member_then (tree.specifier_then
      (tree.Word (at 10) keyword.Int) tree.no_specifiers) (tree.declarator_then (tree.Named (name 14
      2)) tree.no_declarators) (at 10) tree.no_members)) tree.no_specifiers);
  items = (record {
    declarator = (tree.Named (name 17 0));
    initialiser = None;
  } ∷ []);
  end = (at 1);
})) ∷
    (tree.Defined (tree.specifier_then (tree.Word (at 19) keyword.Int) tree.no_specifiers)
    (tree.Empty (tree.Named (name 23 3)) (at 23)) (at 33) ([]) (tree.statement_then (tree.Evaluate
    (tree.Binary (tree.Number (at 34) (constant 1 false)) (at 34) binary.AndAnd (tree.Identifier
    (name 37 0))) (at 34)) (tree.statement_then (tree.Return (at 39) (Some (tree.Number (at 46)
    (constant 0 false))) (at 39)) tree.no_statements))) ∷ []) (start_of false false (record {
      printf
          = None;
      putchar = None;
      exit = None;
      abort = None;
      main = (Some 3);
    }) ([])) ≡ breach
    rule.NotScalar 37
unfolding shape_of layout_of same composite layout_at found_name found_tag own_entity own_tag found_component converted combination fits joined combined compared parameter_types ask_all
not_scalar_and = refl

-- int*p;int main(void){-p;return 0;}
not_integer : check ((tree.Declared (record {
  specifiers = (tree.specifier_then (tree.Word (at 1)
      keyword.Int) tree.no_specifiers);
  items = (record {
    declarator = (tree.Pointer (at 4) []
        (tree.Named (name 5 0)));
    initialiser = None;
  } ∷ []);
  end = (at 1);
})) ∷ (tree.Defined
    (tree.specifier_then (tree.Word (at 7) keyword.Int) tree.no_specifiers) (tree.Empty (tree.Named
    (name 11 1)) (at 11)) (at 21) ([]) (tree.statement_then (tree.Evaluate (tree.Prefix (at 22)
    prefix.Minus (tree.Identifier (name 23 0))) (at 22)) (tree.statement_then (tree.Return (at 25)
    (Some (tree.Number (at 32) (constant 0 false))) (at 25)) tree.no_statements))) ∷ []) (start_of
    false false (record {
      printf = None;
      putchar = None;
      exit = None;
      abort = None;
      main = (Some 1);
    }) ([])) ≡ breach rule.NotInteger 22
unfolding shape_of layout_of same composite layout_at found_name found_tag own_entity own_tag found_component converted combination fits joined combined compared parameter_types ask_all
not_integer = refl

-- int*p;int main(void){p["a"==0?p:p];return 0;}
not_integer_index : check ((tree.Declared (record {
  specifiers = (tree.specifier_then (tree.Word (at
      1) keyword.Int) tree.no_specifiers);
  items = (record {
    declarator = (tree.Pointer (at 4) []
        (tree.Named (name 5 0)));
    initialiser = None;
  } ∷ []);
  end = (at 1);
})) ∷ (tree.Defined
    (tree.specifier_then (tree.Word (at 7) keyword.Int) tree.no_specifiers) (tree.Empty (tree.Named
    (name 11 1)) (at 11)) (at 21) ([]) (tree.statement_then (tree.Evaluate (tree.Index
    (tree.Identifier (name 22 0)) (at 22) (tree.Conditional (tree.Binary (tree.Literal (at 24) 0)
    (at 24) binary.Equal (tree.Number (at 29) (constant 0 false))) (at 24) (tree.Identifier (name 31
    0)) (tree.Identifier (name 33 0)))) (at 22)) (tree.statement_then (tree.Return (at 36) (Some
    (tree.Number (at 43) (constant 0 false))) (at 36)) tree.no_statements))) ∷ []) (start_of false
    false (record { printf = None; putchar = None; exit = None; abort = None; main = (Some 1) })
    ((97 ∷ []) ∷ [])) ≡ breach rule.BadIndex 22
unfolding shape_of layout_of same composite layout_at found_name found_tag own_entity own_tag found_component converted combination fits joined combined compared parameter_types ask_all
not_integer_index = refl

-- int*p;int main(void){switch(p){}return 0;}
not_integer_switch : check ((tree.Declared (record {
  specifiers = (tree.specifier_then (tree.Word
      (at 1) keyword.Int) tree.no_specifiers);
  items = (record {
    declarator = (tree.Pointer (at 4) []
        (tree.Named (name 5 0)));
    initialiser = None;
  } ∷ []);
  end = (at 1);
})) ∷ (tree.Defined
    (tree.specifier_then (tree.Word (at 7) keyword.Int) tree.no_specifiers) (tree.Empty (tree.Named
    (name 11 1)) (at 11)) (at 21) ([]) (tree.statement_then (tree.Switch (at 22) (at 22)
    (tree.Identifier (name 29 0)) (tree.Block (at 31) ([]) tree.no_statements)) (tree.statement_then
    (tree.Return (at 33) (Some (tree.Number (at 40) (constant 0 false))) (at 33))
    tree.no_statements))) ∷ []) (start_of false false (record {
      printf = None;
      putchar = None;
      exit
          = None;
      abort = None;
      main = (Some 1);
    }) ([])) ≡ breach rule.NotInteger 29
unfolding shape_of layout_of same composite layout_at found_name found_tag own_entity own_tag found_component converted combination fits joined combined compared parameter_types ask_all
not_integer_switch = refl

-- int*p;int main(void){p*2;return 0;}
bad_operands : check ((tree.Declared (record {
  specifiers = (tree.specifier_then (tree.Word (at 1)
      keyword.Int) tree.no_specifiers);
  items = (record {
    declarator = (tree.Pointer (at 4) []
        (tree.Named (name 5 0)));
    initialiser = None;
  } ∷ []);
  end = (at 1);
})) ∷ (tree.Defined
    (tree.specifier_then (tree.Word (at 7) keyword.Int) tree.no_specifiers) (tree.Empty (tree.Named
    (name 11 1)) (at 11)) (at 21) ([]) (tree.statement_then (tree.Evaluate (tree.Binary
    (tree.Identifier (name 22 0)) (at 22) binary.Multiply (tree.Number (at 24) (constant 2 false)))
    (at 22)) (tree.statement_then (tree.Return (at 26) (Some (tree.Number (at 33) (constant 0
    false))) (at 26)) tree.no_statements))) ∷ []) (start_of false false (record {
      printf = None;
      putchar = None;
      exit = None;
      abort = None;
      main = (Some 1);
    }) ([])) ≡ breach rule.BadOperands 22
unfolding shape_of layout_of same composite layout_at found_name found_tag own_entity own_tag found_component converted combination fits joined combined compared parameter_types ask_all
bad_operands = refl

-- int*p;char*q;int main(void){p<q;return 0;}
bad_operands_compare : check ((tree.Declared (record {
  specifiers = (tree.specifier_then (tree.Word
      (at 1) keyword.Int) tree.no_specifiers);
  items = (record {
    declarator = (tree.Pointer (at 4) []
        (tree.Named (name 5 0)));
    initialiser = None;
  } ∷ []);
  end = (at 1);
})) ∷ (tree.Declared (record {
  specifiers = (tree.specifier_then (tree.Word (at 7) keyword.Char) tree.no_specifiers);
  items =
      (record { declarator = (tree.Pointer (at 11) [] (tree.Named (name 12 1))); initialiser = None }
      ∷ []);
  end = (at 7);
})) ∷ (tree.Defined (tree.specifier_then (tree.Word (at 14) keyword.Int)
    tree.no_specifiers) (tree.Empty (tree.Named (name 18 2)) (at 18)) (at 28) ([])
    (tree.statement_then (tree.Evaluate (tree.Binary (tree.Identifier (name 29 0)) (at 29)
    binary.Less (tree.Identifier (name 31 1))) (at 29)) (tree.statement_then (tree.Return (at 33)
    (Some (tree.Number (at 40) (constant 0 false))) (at 33)) tree.no_statements))) ∷ []) (start_of
    false false (record {
      printf = None;
      putchar = None;
      exit = None;
      abort = None;
      main = (Some 2);
    }) ([])) ≡ breach rule.BadOperands 29
unfolding shape_of layout_of same composite layout_at found_name found_tag own_entity own_tag found_component converted combination fits joined combined compared parameter_types ask_all
bad_operands_compare = refl

-- int*p;int main(void){1?p:1;return 0;}
bad_operands_conditional : check ((tree.Declared (record {
  specifiers = (tree.specifier_then
      (tree.Word (at 1) keyword.Int) tree.no_specifiers);
  items = (record {
    declarator = (tree.Pointer
        (at 4) [] (tree.Named (name 5 0)));
    initialiser = None;
  } ∷ []);
  end = (at 1);
})) ∷ (tree.Defined
    (tree.specifier_then (tree.Word (at 7) keyword.Int) tree.no_specifiers) (tree.Empty (tree.Named
    (name 11 1)) (at 11)) (at 21) ([]) (tree.statement_then (tree.Evaluate (tree.Conditional
    (tree.Number (at 22) (constant 1 false)) (at 22) (tree.Identifier (name 24 0)) (tree.Number (at
    26) (constant 1 false))) (at 22)) (tree.statement_then (tree.Return (at 28) (Some (tree.Number
    (at 35) (constant 0 false))) (at 28)) tree.no_statements))) ∷ []) (start_of false false (record
    { printf = None; putchar = None; exit = None; abort = None; main = (Some 1) }) ([])) ≡ breach
    rule.BadOperands 22
unfolding shape_of layout_of same composite layout_at found_name found_tag own_entity own_tag found_component converted combination fits joined combined compared parameter_types ask_all
bad_operands_conditional = refl

-- int*p;int main(void){p*=2;return 0;}
bad_operands_update : check ((tree.Declared (record {
  specifiers = (tree.specifier_then (tree.Word
      (at 1) keyword.Int) tree.no_specifiers);
  items = (record {
    declarator = (tree.Pointer (at 4) []
        (tree.Named (name 5 0)));
    initialiser = None;
  } ∷ []);
  end = (at 1);
})) ∷ (tree.Defined
    (tree.specifier_then (tree.Word (at 7) keyword.Int) tree.no_specifiers) (tree.Empty (tree.Named
    (name 11 1)) (at 11)) (at 21) ([]) (tree.statement_then (tree.Evaluate (tree.Assignment
    (tree.Identifier (name 22 0)) (at 22) assignment.Multiply (tree.Number (at 25) (constant 2
    false))) (at 22)) (tree.statement_then (tree.Return (at 27) (Some (tree.Number (at 34) (constant
    0 false))) (at 27)) tree.no_statements))) ∷ []) (start_of false false (record {
      printf = None;
      putchar = None;
      exit = None;
      abort = None;
      main = (Some 1);
    }) ([])) ≡ breach rule.BadOperands 22
unfolding shape_of layout_of same composite layout_at found_name found_tag own_entity own_tag found_component converted combination fits joined combined compared parameter_types ask_all
bad_operands_update = refl

-- int*p;int main(void){p=1;return 0;}
bad_assign : check ((tree.Declared (record {
  specifiers = (tree.specifier_then (tree.Word (at 1)
      keyword.Int) tree.no_specifiers);
  items = (record {
    declarator = (tree.Pointer (at 4) []
        (tree.Named (name 5 0)));
    initialiser = None;
  } ∷ []);
  end = (at 1);
})) ∷ (tree.Defined
    (tree.specifier_then (tree.Word (at 7) keyword.Int) tree.no_specifiers) (tree.Empty (tree.Named
    (name 11 1)) (at 11)) (at 21) ([]) (tree.statement_then (tree.Evaluate (tree.Assignment
    (tree.Identifier (name 22 0)) (at 22) assignment.Assign (tree.Number (at 24) (constant 1
    false))) (at 22)) (tree.statement_then (tree.Return (at 26) (Some (tree.Number (at 33) (constant
    0 false))) (at 26)) tree.no_statements))) ∷ []) (start_of false false (record {
      printf = None;
      putchar = None;
      exit = None;
      abort = None;
      main = (Some 1);
    }) ([])) ≡ breach rule.BadAssign 22
unfolding shape_of layout_of same composite layout_at found_name found_tag own_entity own_tag found_component converted combination fits joined combined compared parameter_types ask_all
bad_assign = refl

-- int*p;char*q;int main(void){p=q;return 0;}
bad_assign_pointer : check ((tree.Declared (record {
  specifiers = (tree.specifier_then (tree.Word
      (at 1) keyword.Int) tree.no_specifiers);
  items = (record {
    declarator = (tree.Pointer (at 4) []
        (tree.Named (name 5 0)));
    initialiser = None;
  } ∷ []);
  end = (at 1);
})) ∷ (tree.Declared (record {
  specifiers = (tree.specifier_then (tree.Word (at 7) keyword.Char) tree.no_specifiers);
  items =
      (record { declarator = (tree.Pointer (at 11) [] (tree.Named (name 12 1))); initialiser = None }
      ∷ []);
  end = (at 7);
})) ∷ (tree.Defined (tree.specifier_then (tree.Word (at 14) keyword.Int)
    tree.no_specifiers) (tree.Empty (tree.Named (name 18 2)) (at 18)) (at 28) ([])
    (tree.statement_then (tree.Evaluate (tree.Assignment (tree.Identifier (name 29 0)) (at 29)
    assignment.Assign (tree.Identifier (name 31 1))) (at 29)) (tree.statement_then (tree.Return (at
    33) (Some (tree.Number (at 40) (constant 0 false))) (at 33)) tree.no_statements))) ∷ [])
    (start_of false false (record {
      printf = None;
      putchar = None;
      exit = None;
      abort = None;
      main =
          (Some 2);
    }) ([])) ≡ breach rule.BadAssign 29
unfolding shape_of layout_of same composite layout_at found_name found_tag own_entity own_tag found_component converted combination fits joined combined compared parameter_types ask_all
bad_assign_pointer = refl

-- int main(void){int*p=1; return 0;}
bad_assign_initial : check ((tree.Defined (tree.specifier_then (tree.Word (at 1) keyword.Int)
    tree.no_specifiers) (tree.Empty (tree.Named (name 5 0)) (at 5)) (at 15) ((record {
      specifiers =
          (tree.specifier_then (tree.Word (at 16) keyword.Int) tree.no_specifiers);
      items = (record {
        declarator = (tree.Pointer (at 19) [] (tree.Named (name 20 1)));
        initialiser = Some (
          (at 22),
          (tree.Value (tree.Number (at 22) (constant 1 false))),
        );
      } ∷ []);
      end = (at 16);
    }) ∷ [])
    (tree.statement_then (tree.Return (at 25) (Some (tree.Number (at 32) (constant 0 false))) (at
    25)) tree.no_statements)) ∷ []) (start_of false false (record {
      printf = None;
      putchar = None;
      exit = None;
      abort = None;
      main = (Some 0);
    }) ([])) ≡ breach rule.BadAssign 22
unfolding shape_of layout_of same composite layout_at found_name found_tag own_entity own_tag found_component converted combination fits joined combined compared parameter_types ask_all
bad_assign_initial = refl

-- struct s{int a;}x;int main(void){(int)x;return 0;}
bad_cast : check ((tree.Declared (record {
  specifiers = (tree.specifier_then (tree.StructureBody (at
      1) (Some (name 8 1)) (at 1) (tree.member_then (tree.specifier_then (tree.Word (at 10)
      keyword.Int) tree.no_specifiers) (tree.declarator_then (tree.Named (name 14 2))
      tree.no_declarators) (at 10) tree.no_members)) tree.no_specifiers);
  items = (record {
    declarator
        = (tree.Named (name 17 0));
    initialiser = None;
  } ∷ []);
  end = (at 1);
})) ∷ (tree.Defined
    (tree.specifier_then (tree.Word (at 19) keyword.Int) tree.no_specifiers) (tree.Empty (tree.Named
    (name 23 3)) (at 23)) (at 33) ([]) (tree.statement_then (tree.Evaluate (tree.Cast (at 34)
    (tree.specifier_then (tree.Word (at 35) keyword.Int) tree.no_specifiers) tree.Absent
    (tree.Identifier (name 39 0))) (at 34)) (tree.statement_then (tree.Return (at 41) (Some
    (tree.Number (at 48) (constant 0 false))) (at 41)) tree.no_statements))) ∷ []) (start_of false
    false (record { printf = None; putchar = None; exit = None; abort = None; main = (Some 3) })
    ([])) ≡ breach rule.BadCast 34
unfolding shape_of layout_of same composite layout_at found_name found_tag own_entity own_tag found_component converted combination fits joined combined compared parameter_types ask_all
bad_cast = refl

-- int main(void){(int[2])1; return 0;}
bad_cast_array : check ((tree.Defined (tree.specifier_then (tree.Word (at 1) keyword.Int)
    tree.no_specifiers) (tree.Empty (tree.Named (name 5 0)) (at 5)) (at 15) ([])
    (tree.statement_then (tree.Evaluate (tree.Cast (at 16) (tree.specifier_then (tree.Word (at 17)
    keyword.Int) tree.no_specifiers) (tree.Sized tree.Absent (at 20) (tree.Number (at 21) (constant
    2 false))) (tree.Number (at 24) (constant 1 false))) (at 16)) (tree.statement_then (tree.Return
    (at 27) (Some (tree.Number (at 34) (constant 0 false))) (at 27)) tree.no_statements))) ∷ [])
    (start_of false false (record {
      printf = None;
      putchar = None;
      exit = None;
      abort = None;
      main =
          (Some 0);
    }) ([])) ≡ breach rule.BadCast 16
unfolding shape_of layout_of same composite layout_at found_name found_tag own_entity own_tag found_component converted combination fits joined combined compared parameter_types ask_all
bad_cast_array = refl
