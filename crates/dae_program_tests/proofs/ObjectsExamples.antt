-- Examples of objects: programs, and what an independent implementation of their meaning finds of them. Made by
-- tools/meaning/terms.py.
use Rattle.std.proofs.Common.{◌≡◌, ℕ, true, false, ◌&&◌, ◌∷◌, List, [], ◌++◌, Some, None, nat_eq, if◌then◌else◌, refl}
use Rattle.std.specs.Prelude.{slice_index, slice_get, nat_le}
use Rattle.dae_base.specs.declared.LoadKind.TheVariants as kind
use Rattle.dae_meaning.specs.Operations.{compared, misplaced, combined, spelled}
use Rattle.dae_meaning.specs.Results.{Halted, Trapped}
use Rattle.dae_meaning.specs.declared.Operator.TheVariants as op
use Rattle.dae_meaning.specs.declared.Comparison.TheVariants as rel
use Rattle.dae_meaning.specs.declared.Spelling.TheVariants as spell
use Rattle.dae_program.specs.declared.statements.FormatPiece.TheVariants as piece
use Rattle.dae_program.specs.Trees as tree
use Rattle.dae_program.specs.Trees.{Program, Function}
use Rattle.dae_program.specs.Printing.{most_bytes}
use Rattle.dae_program.specs.Programs.{run, start}
use Rattle.dae_program.specs.Lawful.{is_lawful_body}
use Rattle.dae_program.specs.Wanted.{wanted_reads, open_tests}
use Rattle.dae_program_tests.proofs.Seen.{here, seen, work_of, among}

-- #include <stdio.h>
-- int g;int h;int main(void){g=6;h=g*7;printf("%d\n",h);return 0;}
abbrev product : Program
product = record { limit = 100; function = function } where
  addresses : ℕ → ℕ
  addresses k = slice_index (16 ∷ 20 ∷ 24 ∷ []) k

  f0 : Function
  f0 = record {
    address = addresses;
    callee = λ g. g;
    parameters = [];
    frame = 0;
    body = (tree.Evaluate here (tree.Assign here kind.I32 (tree.AtAddress false (tree.Address 0 0)) (tree.Number 6))
        (tree.Evaluate here (tree.Assign here kind.I32 (tree.AtAddress false (tree.Address 1 0)) (tree.Binary here
        op.Multiply (tree.Read here kind.I32 false (tree.Address 0 0)) (tree.Number 7))) (tree.Print here
        (tree.expression_then (tree.Read here kind.I32 false (tree.Address 1 0)) tree.no_expressions) (piece.Word
        spell.Signed 0 ∷ piece.Byte 10 ∷ []) (tree.Evaluate here (tree.Exit here (tree.Number 0)) tree.Done))));
  }

  function : ℕ → Function
  function f = f0

product_lawful : (is_lawful_body 128 1 (slice_get (0 ∷ [])) false (let p = product in p.function 0) && true) ≡ true
product_lawful = refl

abbrev product_data : List ℕ
product_data = (0 ∷ 0 ∷ 0 ∷ 0 ∷ 0 ∷ 0 ∷ 0 ∷ 0 ∷ 37 ∷ 100 ∷ 10 ∷ 0 ∷ [])

product_runs :
    seen 11 (run product 100000 0 (start 128 28 product_data)) ≡
    record {
      end = Halted 0;
      printed = (([] ++ spelled spell.Signed 42) ++ (10 ∷ []));
      reads = 2;
      writes = 2;
      bytes = (6 ∷
          0 ∷ 0 ∷ 0 ∷ 42 ∷ 0 ∷ 0 ∷ 0 ∷ 37 ∷ 100 ∷ 10 ∷ []);
      rest_is_zero = true;
    }
unfolding compared misplaced combined spelled most_bytes
product_runs = refl

product_reads : (nat_eq (wanted_reads product (among ([] ∷ [])) 0) 0 && true) ≡ true
product_reads = refl

product_tests : (nat_eq (open_tests product (among ([] ∷ [])) 0) 0 && true) ≡ true
product_tests = refl

-- #include <stdio.h>
-- int g;int h;int main(void){g=3;h=g*g;printf("%d\n",h);return 0;}
abbrev square : Program
square = record { limit = 100; function = function } where
  addresses : ℕ → ℕ
  addresses k = slice_index (16 ∷ 20 ∷ 24 ∷ []) k

  f0 : Function
  f0 = record {
    address = addresses;
    callee = λ g. g;
    parameters = [];
    frame = 0;
    body = (tree.Evaluate here (tree.Assign here kind.I32 (tree.AtAddress false (tree.Address 0 0)) (tree.Number 3))
        (tree.Evaluate here (tree.Assign here kind.I32 (tree.AtAddress false (tree.Address 1 0)) (tree.Binary here
        op.Multiply (tree.Read here kind.I32 false (tree.Address 0 0)) (tree.Read here kind.I32 false (tree.Address 0
        0)))) (tree.Print here (tree.expression_then (tree.Read here kind.I32 false (tree.Address 1 0))
        tree.no_expressions) (piece.Word spell.Signed 0 ∷ piece.Byte 10 ∷ []) (tree.Evaluate here (tree.Exit here
        (tree.Number 0)) tree.Done))));
  }

  function : ℕ → Function
  function f = f0

square_lawful : (is_lawful_body 128 1 (slice_get (0 ∷ [])) false (let p = square in p.function 0) && true) ≡ true
square_lawful = refl

abbrev square_data : List ℕ
square_data = (0 ∷ 0 ∷ 0 ∷ 0 ∷ 0 ∷ 0 ∷ 0 ∷ 0 ∷ 37 ∷ 100 ∷ 10 ∷ 0 ∷ [])

square_runs :
    seen 11 (run square 100000 0 (start 128 28 square_data)) ≡
    record {
      end = Halted 0;
      printed = (([] ++ spelled spell.Signed 9) ++ (10 ∷ []));
      reads = 3;
      writes = 2;
      bytes = (3 ∷
          0 ∷ 0 ∷ 0 ∷ 9 ∷ 0 ∷ 0 ∷ 0 ∷ 37 ∷ 100 ∷ 10 ∷ []);
      rest_is_zero = true;
    }
unfolding compared misplaced combined spelled most_bytes
square_runs = refl

square_reads : (nat_eq (wanted_reads square (among ([] ∷ [])) 0) 0 && true) ≡ true
square_reads = refl

square_tests : (nat_eq (open_tests square (among ([] ∷ [])) 0) 0 && true) ≡ true
square_tests = refl

-- #include <stdio.h>
-- struct p{int x;short y;char z;};struct p t[4];int main(void){struct p*a=&t[3];struct p*b=t;b->y=7;(b+1)->x=5;a--;a->z='c';printf("%d %d %d %c\n",a-b,t[0].y+b[1].x,a>b,t[2].z);return (int)a-(int)b;}
abbrev pointers : Program
pointers = record { limit = 100; function = function } where
  addresses : ℕ → ℕ
  addresses k = slice_index (16 ∷ 48 ∷ []) k

  f0 : Function
  f0 = record {
    address = addresses;
    callee = λ g. g;
    parameters = [];
    frame = 0;
    body = (tree.Evaluate here (tree.Assign here kind.I32 (tree.InVariable 1) (tree.Address 0 24)) (tree.Evaluate here
        (tree.Assign here kind.I32 (tree.InVariable 2) (tree.Address 0 0)) (tree.Evaluate here (tree.Assign here kind.I16
        (tree.AtAddress true (tree.Binary here op.Add (tree.Variable here 2) (tree.Number 4))) (tree.Number 7))
        (tree.Evaluate here (tree.Assign here kind.I32 (tree.AtAddress true (tree.Binary here op.Add (tree.Variable here
        2) (tree.Number 8))) (tree.Number 5)) (tree.Evaluate here (tree.Step here kind.I32 (tree.InVariable 1) 4294967288
        false) (tree.Evaluate here (tree.Assign here kind.U8 (tree.AtAddress true (tree.Binary here op.Add (tree.Variable
        here 1) (tree.Number 6))) (tree.Number 99)) (tree.Print here (tree.expression_then (tree.Binary here
        op.DivideSigned (tree.Binary here op.Subtract (tree.Variable here 1) (tree.Variable here 2)) (tree.Number 8))
        (tree.expression_then (tree.Binary here op.Add (tree.Read here kind.I16 true (tree.Address 0 4)) (tree.Read here
        kind.I32 true (tree.Binary here op.Add (tree.Variable here 2) (tree.Number 8)))) (tree.expression_then
        (tree.Compare here rel.LessUnsigned true (tree.Variable here 1) (tree.Variable here 2)) (tree.expression_then
        (tree.Read here kind.U8 true (tree.Address 0 22)) tree.no_expressions)))) (piece.Word spell.Signed 0 ∷ piece.Byte
        32 ∷ piece.Word spell.Signed 1 ∷ piece.Byte 32 ∷ piece.Word spell.Signed 2 ∷ piece.Byte 32 ∷ piece.Word spell.Byte
        3 ∷ piece.Byte 10 ∷ []) (tree.Evaluate here (tree.Exit here (tree.Binary here op.Subtract (tree.Variable here 1)
        (tree.Variable here 2))) tree.Done))))))));
  }

  function : ℕ → Function
  function f = f0

pointers_lawful : (is_lawful_body 192 3 (slice_get (0 ∷ [])) false (let p = pointers in p.function 0) && true) ≡ true
pointers_lawful = refl

abbrev pointers_data : List ℕ
pointers_data = (0 ∷ 0 ∷ 0 ∷ 0 ∷ 0 ∷ 0 ∷ 0 ∷ 0 ∷ 0 ∷ 0 ∷ 0 ∷ 0 ∷ 0 ∷ 0 ∷ 0 ∷ 0 ∷ 0 ∷ 0 ∷ 0 ∷ 0 ∷ 0 ∷ 0 ∷ 0 ∷ 0 ∷ 0 ∷ 0 ∷ 0 ∷ 0 ∷ 0 ∷ 0
    ∷ 0 ∷ 0 ∷ 37 ∷ 100 ∷ 32 ∷ 37 ∷ 100 ∷ 32 ∷ 37 ∷ 100 ∷ 32 ∷ 37 ∷ 99 ∷ 10 ∷ 0 ∷ [])

pointers_runs :
    seen 44 (run pointers 100000 0 (start 192 64 pointers_data)) ≡
    record {
      end = Halted 16;
      printed = (((((((([] ++ spelled spell.Signed 2) ++ (32 ∷ [])) ++ spelled spell.Signed 12) ++
          (32 ∷ [])) ++ spelled spell.Signed 1) ++ (32 ∷ [])) ++ spelled spell.Byte 99) ++ (10 ∷ []));
      reads = 3;
      writes = 3;
      bytes = (0 ∷ 0 ∷ 0 ∷ 0 ∷ 7 ∷ 0 ∷ 0 ∷ 0 ∷ 5 ∷ 0 ∷ 0 ∷ 0 ∷ 0 ∷ 0 ∷ 0 ∷ 0 ∷ 0 ∷ 0 ∷ 0 ∷ 0 ∷ 0 ∷ 0 ∷ 99 ∷ 0 ∷ 0 ∷ 0 ∷ 0 ∷
          0 ∷ 0 ∷ 0 ∷ 0 ∷ 0 ∷ 37 ∷ 100 ∷ 32 ∷ 37 ∷ 100 ∷ 32 ∷ 37 ∷ 100 ∷ 32 ∷ 37 ∷ 99 ∷ 10 ∷ []);
      rest_is_zero = true;
    }
unfolding compared misplaced combined spelled most_bytes
pointers_runs = refl

pointers_reads : (nat_eq (wanted_reads pointers (among ((1 ∷ 2 ∷ []) ∷ [])) 0) 0 && true) ≡ true
pointers_reads = refl

pointers_tests : (nat_eq (open_tests pointers (among ((1 ∷ 2 ∷ []) ∷ [])) 0) 0 && true) ≡ true
pointers_tests = refl

-- #include <stdio.h>
-- int a[5]={1,2,3,4,5};int m[2][3]={{1,2,3},{4,5,6}};int main(void){int*p=a+4;int*q=&a[1];int n=p-q;n=n*10+(q-p)+4;n=n*10+2[a];n=n*10+*(p-1);n=n*10+m[1][2];n=n*10+(*(m+1))[0];return n*10+(p>q)+(q<=p)*2+(p==q+3)*4+!p*8;}
abbrev pointer_sums : Program
pointer_sums = record { limit = 100; function = function } where
  addresses : ℕ → ℕ
  addresses k = slice_index (16 ∷ 36 ∷ []) k

  f0 : Function
  f0 = record {
    address = addresses;
    callee = λ g. g;
    parameters = [];
    frame = 0;
    body = (tree.Evaluate here (tree.Assign here kind.I32 (tree.InVariable 1) (tree.Address 0 16)) (tree.Evaluate here
        (tree.Assign here kind.I32 (tree.InVariable 2) (tree.Address 0 4)) (tree.Evaluate here (tree.Assign here kind.I32
        (tree.InVariable 3) (tree.Binary here op.DivideSigned (tree.Binary here op.Subtract (tree.Variable here 1)
        (tree.Variable here 2)) (tree.Number 4))) (tree.Evaluate here (tree.Assign here kind.I32 (tree.InVariable 3)
        (tree.Binary here op.Add (tree.Binary here op.Add (tree.Binary here op.Multiply (tree.Variable here 3)
        (tree.Number 10)) (tree.Binary here op.DivideSigned (tree.Binary here op.Subtract (tree.Variable here 2)
        (tree.Variable here 1)) (tree.Number 4))) (tree.Number 4))) (tree.Evaluate here (tree.Assign here kind.I32
        (tree.InVariable 3) (tree.Binary here op.Add (tree.Binary here op.Multiply (tree.Variable here 3) (tree.Number
        10)) (tree.Read here kind.I32 true (tree.Address 0 8)))) (tree.Evaluate here (tree.Assign here kind.I32
        (tree.InVariable 3) (tree.Binary here op.Add (tree.Binary here op.Multiply (tree.Variable here 3) (tree.Number
        10)) (tree.Read here kind.I32 true (tree.Binary here op.Add (tree.Variable here 1) (tree.Number 4294967292)))))
        (tree.Evaluate here (tree.Assign here kind.I32 (tree.InVariable 3) (tree.Binary here op.Add (tree.Binary here
        op.Multiply (tree.Variable here 3) (tree.Number 10)) (tree.Read here kind.I32 true (tree.Address 1 20))))
        (tree.Evaluate here (tree.Assign here kind.I32 (tree.InVariable 3) (tree.Binary here op.Add (tree.Binary here
        op.Multiply (tree.Variable here 3) (tree.Number 10)) (tree.Read here kind.I32 true (tree.Address 1 12))))
        (tree.Evaluate here (tree.Exit here (tree.Binary here op.Add (tree.Binary here op.Add (tree.Binary here op.Add
        (tree.Binary here op.Add (tree.Binary here op.Multiply (tree.Variable here 3) (tree.Number 10)) (tree.Compare here
        rel.LessUnsigned true (tree.Variable here 1) (tree.Variable here 2))) (tree.Binary here op.Multiply (tree.Compare
        here rel.AtLeastUnsigned true (tree.Variable here 2) (tree.Variable here 1)) (tree.Number 2))) (tree.Binary here
        op.Multiply (tree.Compare here rel.Equal false (tree.Variable here 1) (tree.Binary here op.Add (tree.Variable here
        2) (tree.Number 12))) (tree.Number 4))) (tree.Binary here op.Multiply (tree.Not here (tree.Variable here 1))
        (tree.Number 8)))) tree.Done)))))))));
  }

  function : ℕ → Function
  function f = f0

pointer_sums_lawful : (is_lawful_body 192 4 (slice_get (0 ∷ [])) false (let p = pointer_sums in p.function 0) && true) ≡ true
pointer_sums_lawful = refl

abbrev pointer_sums_data : List ℕ
pointer_sums_data = (1 ∷ 0 ∷ 0 ∷ 0 ∷ 2 ∷ 0 ∷ 0 ∷ 0 ∷ 3 ∷ 0 ∷ 0 ∷ 0 ∷ 4 ∷ 0 ∷ 0 ∷ 0 ∷ 5 ∷ 0 ∷ 0 ∷ 0 ∷ 1 ∷ 0 ∷ 0 ∷ 0 ∷ 2 ∷ 0 ∷ 0 ∷ 0 ∷ 3 ∷ 0
    ∷ 0 ∷ 0 ∷ 4 ∷ 0 ∷ 0 ∷ 0 ∷ 5 ∷ 0 ∷ 0 ∷ 0 ∷ 6 ∷ 0 ∷ 0 ∷ 0 ∷ [])

pointer_sums_runs :
    seen 41 (run pointer_sums 100000 0 (start 192 60 pointer_sums_data)) ≡
    record {
      end = Halted 3134647;
      printed = [];
      reads = 4;
      writes = 0;
      bytes = (1 ∷ 0 ∷ 0 ∷ 0 ∷ 2 ∷ 0 ∷ 0 ∷ 0 ∷ 3 ∷ 0 ∷ 0
          ∷ 0 ∷ 4 ∷ 0 ∷ 0 ∷ 0 ∷ 5 ∷ 0 ∷ 0 ∷ 0 ∷ 1 ∷ 0 ∷ 0 ∷ 0 ∷ 2 ∷ 0 ∷ 0 ∷ 0 ∷ 3 ∷ 0 ∷ 0 ∷ 0 ∷ 4 ∷ 0 ∷ 0 ∷ 0 ∷ 5 ∷ 0 ∷ 0 ∷ 0 ∷
          6 ∷ []);
      rest_is_zero = true;
    }
unfolding compared misplaced combined spelled most_bytes
pointer_sums_runs = refl

pointer_sums_works : nat_le (work_of (run pointer_sums 100000 0 (start 192 60 pointer_sums_data))) 300 ≡ true
unfolding compared misplaced combined spelled most_bytes
pointer_sums_works = refl

pointer_sums_reads : (nat_eq (wanted_reads pointer_sums (among ((1 ∷ []) ∷ [])) 0) 0 && true) ≡ true
pointer_sums_reads = refl

pointer_sums_tests : (nat_eq (open_tests pointer_sums (among ((1 ∷ []) ∷ [])) 0) 0 && true) ≡ true
pointer_sums_tests = refl

-- #include <stdio.h>
-- struct n{int v;struct n*next;};struct n c={3,0};struct n b={2,&c};struct n a={1,&b};int main(void){struct n*p=&a;int s=0;while(p){s=s*10+p->v;p=p->next;}a.next->next->v=9;return s*10+b.next->v;}
abbrev linked_list : Program
linked_list = record { limit = 100; function = function } where
  addresses : ℕ → ℕ
  addresses k = slice_index (16 ∷ 24 ∷ 32 ∷ []) k

  f0 : Function
  f0 = record {
    address = addresses;
    callee = λ g. g;
    parameters = [];
    frame = 0;
    body = (tree.Evaluate here (tree.Assign here kind.I32 (tree.InVariable 1) (tree.Address 2 0)) (tree.Evaluate here
        (tree.Assign here kind.I32 (tree.InVariable 2) (tree.Number 0)) (tree.Loop here (Some (tree.Variable here 1))
        (tree.Evaluate here (tree.Assign here kind.I32 (tree.InVariable 2) (tree.Binary here op.Add (tree.Binary here
        op.Multiply (tree.Variable here 2) (tree.Number 10)) (tree.Read here kind.I32 true (tree.Variable here 1))))
        (tree.Evaluate here (tree.Assign here kind.I32 (tree.InVariable 1) (tree.Read here kind.I32 true (tree.Binary here
        op.Add (tree.Variable here 1) (tree.Number 4)))) tree.Done)) None (tree.Evaluate here (tree.Assign here kind.I32
        (tree.AtAddress true (tree.Read here kind.I32 true (tree.Binary here op.Add (tree.Read here kind.I32 false
        (tree.Address 2 4)) (tree.Number 4)))) (tree.Number 9)) (tree.Evaluate here (tree.Exit here (tree.Binary here
        op.Add (tree.Binary here op.Multiply (tree.Variable here 2) (tree.Number 10)) (tree.Read here kind.I32 true
        (tree.Read here kind.I32 false (tree.Address 1 4))))) tree.Done)))));
  }

  function : ℕ → Function
  function f = f0

linked_list_lawful : (is_lawful_body 128 3 (slice_get (0 ∷ [])) false (let p = linked_list in p.function 0) && true) ≡ true
linked_list_lawful = refl

abbrev linked_list_data : List ℕ
linked_list_data = (3 ∷ 0 ∷ 0 ∷ 0 ∷ 0 ∷ 0 ∷ 0 ∷ 0 ∷ 2 ∷ 0 ∷ 0 ∷ 0 ∷ 16 ∷ 0 ∷ 0 ∷ 0 ∷ 1 ∷ 0 ∷ 0 ∷ 0 ∷ 24 ∷ 0 ∷ 0 ∷ 0 ∷ [])

linked_list_runs :
    seen 21 (run linked_list 100000 0 (start 128 40 linked_list_data)) ≡
    record {
      end = Halted 1239;
      printed = [];
      reads = 10;
      writes = 1;
      bytes = (9 ∷ 0 ∷ 0 ∷ 0 ∷ 0 ∷ 0 ∷ 0 ∷ 0 ∷ 2 ∷ 0 ∷ 0 ∷
          0 ∷ 16 ∷ 0 ∷ 0 ∷ 0 ∷ 1 ∷ 0 ∷ 0 ∷ 0 ∷ 24 ∷ []);
      rest_is_zero = true;
    }
unfolding compared misplaced combined spelled most_bytes
linked_list_runs = refl

linked_list_works : nat_le (work_of (run linked_list 100000 0 (start 128 40 linked_list_data))) 225 ≡ true
unfolding compared misplaced combined spelled most_bytes
linked_list_works = refl

linked_list_reads : (nat_eq (wanted_reads linked_list (among ((1 ∷ []) ∷ [])) 0) 4 && true) ≡ true
linked_list_reads = refl

linked_list_tests : (nat_eq (open_tests linked_list (among ((1 ∷ []) ∷ [])) 0) 1 && true) ≡ true
linked_list_tests = refl

-- char s[6]="hello";int main(void){unsigned char i=255;int n=0;i++;while(s[i])n=n*3+s[i++]%7;return n+i[s]+*(s+1);}
abbrev char_index : Program
char_index = record { limit = 100; function = function } where
  addresses : ℕ → ℕ
  addresses k = slice_index (16 ∷ 22 ∷ []) k

  f0 : Function
  f0 = record {
    address = addresses;
    callee = λ g. g;
    parameters = [];
    frame = 0;
    body = (tree.Evaluate here (tree.Assign here kind.U8 (tree.InVariable 1) (tree.Number 255)) (tree.Evaluate here
        (tree.Assign here kind.I32 (tree.InVariable 2) (tree.Number 0)) (tree.Evaluate here (tree.Step here kind.U8
        (tree.InVariable 1) 1 false) (tree.Loop here (Some (tree.Read here kind.U8 true (tree.Binary here op.Add
        (tree.Address 0 0) (tree.Variable here 1)))) (tree.Evaluate here (tree.Assign here kind.I32 (tree.InVariable 2)
        (tree.Binary here op.Add (tree.Binary here op.Multiply (tree.Variable here 2) (tree.Number 3)) (tree.Binary here
        op.RemainderSigned (tree.Read here kind.U8 true (tree.Binary here op.Add (tree.Address 0 0) (tree.Step here
        kind.U8 (tree.InVariable 1) 1 false))) (tree.Number 7)))) tree.Done) None (tree.Evaluate here (tree.Exit here
        (tree.Binary here op.Add (tree.Binary here op.Add (tree.Variable here 2) (tree.Read here kind.U8 true (tree.Binary
        here op.Add (tree.Variable here 1) (tree.Address 0 0)))) (tree.Read here kind.U8 true (tree.Address 0 1))))
        tree.Done)))));
  }

  function : ℕ → Function
  function f = f0

char_index_lawful : (is_lawful_body 128 3 (slice_get (0 ∷ [])) false (let p = char_index in p.function 0) && true) ≡ true
char_index_lawful = refl

abbrev char_index_data : List ℕ
char_index_data = (104 ∷ 101 ∷ 108 ∷ 108 ∷ 111 ∷ 0 ∷ 104 ∷ 101 ∷ 108 ∷ 108 ∷ 111 ∷ 0 ∷ [])

char_index_runs :
    seen 11 (run char_index 100000 0 (start 128 28 char_index_data)) ≡
    record {
      end = Halted 710;
      printed = [];
      reads = 13;
      writes = 0;
      bytes = (104 ∷ 101 ∷ 108 ∷ 108 ∷ 111 ∷ 0 ∷ 104 ∷ 101
          ∷ 108 ∷ 108 ∷ 111 ∷ []);
      rest_is_zero = true;
    }
unfolding compared misplaced combined spelled most_bytes
char_index_runs = refl

char_index_works : nat_le (work_of (run char_index 100000 0 (start 128 28 char_index_data))) 327 ≡ true
unfolding compared misplaced combined spelled most_bytes
char_index_works = refl

char_index_reads : (nat_eq (wanted_reads char_index (among ((1 ∷ []) ∷ [])) 0) 0 && true) ≡ true
char_index_reads = refl

-- struct s{int a;int b;};struct s x={1,2};struct s y={3,4};int main(void){int n=0;struct s*p=&y;return (n?x:y).b*10+(n++,x).a+(n?*p:x).a*100;}
abbrev comma_struct : Program
comma_struct = record { limit = 100; function = function } where
  addresses : ℕ → ℕ
  addresses k = slice_index (16 ∷ 24 ∷ []) k

  f0 : Function
  f0 = record {
    address = addresses;
    callee = λ g. g;
    parameters = [];
    frame = 0;
    body = (tree.Evaluate here (tree.Assign here kind.I32 (tree.InVariable 1) (tree.Number 0)) (tree.Evaluate here
        (tree.Assign here kind.I32 (tree.InVariable 2) (tree.Address 1 0)) (tree.Evaluate here (tree.Exit here
        (tree.Binary here op.Add (tree.Binary here op.Add (tree.Binary here op.Multiply (tree.Read here kind.I32 false
        (tree.Binary here op.Add (tree.Conditional here (tree.Variable here 1) (tree.Address 0 0) (tree.Address 1 0))
        (tree.Number 4))) (tree.Number 10)) (tree.Read here kind.I32 false (tree.Comma (tree.Step here kind.I32
        (tree.InVariable 1) 1 false) (tree.Address 0 0)))) (tree.Binary here op.Multiply (tree.Read here kind.I32 true
        (tree.Conditional here (tree.Variable here 1) (tree.Variable here 2) (tree.Address 0 0))) (tree.Number 100))))
        tree.Done)));
  }

  function : ℕ → Function
  function f = f0

comma_struct_lawful : (is_lawful_body 128 3 (slice_get (0 ∷ [])) false (let p = comma_struct in p.function 0) && true) ≡ true
comma_struct_lawful = refl

abbrev comma_struct_data : List ℕ
comma_struct_data = (1 ∷ 0 ∷ 0 ∷ 0 ∷ 2 ∷ 0 ∷ 0 ∷ 0 ∷ 3 ∷ 0 ∷ 0 ∷ 0 ∷ 4 ∷ 0 ∷ 0 ∷ 0 ∷ [])

comma_struct_runs :
    seen 13 (run comma_struct 100000 0 (start 128 32 comma_struct_data)) ≡
    record {
      end = Halted 341;
      printed = [];
      reads = 3;
      writes = 0;
      bytes = (1 ∷ 0 ∷ 0 ∷ 0 ∷ 2 ∷ 0 ∷ 0 ∷ 0 ∷ 3 ∷ 0 ∷ 0 ∷ 0
          ∷ 4 ∷ []);
      rest_is_zero = true;
    }
unfolding compared misplaced combined spelled most_bytes
comma_struct_runs = refl

comma_struct_works : nat_le (work_of (run comma_struct 100000 0 (start 128 32 comma_struct_data))) 84 ≡ true
unfolding compared misplaced combined spelled most_bytes
comma_struct_works = refl

comma_struct_reads : (nat_eq (wanted_reads comma_struct (among ((2 ∷ []) ∷ [])) 0) 0 && true) ≡ true
comma_struct_reads = refl

comma_struct_tests : (nat_eq (open_tests comma_struct (among ((2 ∷ []) ∷ [])) 0) 0 && true) ≡ true
comma_struct_tests = refl

-- int x=1;int y;int main(void){int*p=&x;*p+=(x=10);y=x;x-=(*p=5);return x;}
abbrev alias_update : Program
alias_update = record { limit = 100; function = function } where
  addresses : ℕ → ℕ
  addresses k = slice_index (16 ∷ 20 ∷ []) k

  f0 : Function
  f0 = record {
    address = addresses;
    callee = λ g. g;
    parameters = [];
    frame = 0;
    body = (tree.Evaluate here (tree.Assign here kind.I32 (tree.InVariable 1) (tree.Address 0 0)) (tree.Evaluate here
        (tree.Update here kind.I32 (tree.AtAddress true (tree.Variable here 1)) op.Add (tree.Assign here kind.I32
        (tree.AtAddress false (tree.Address 0 0)) (tree.Number 10))) (tree.Evaluate here (tree.Assign here kind.I32
        (tree.AtAddress false (tree.Address 1 0)) (tree.Read here kind.I32 false (tree.Address 0 0))) (tree.Evaluate here
        (tree.Update here kind.I32 (tree.AtAddress false (tree.Address 0 0)) op.Subtract (tree.Assign here kind.I32
        (tree.AtAddress true (tree.Variable here 1)) (tree.Number 5))) (tree.Evaluate here (tree.Exit here (tree.Read here
        kind.I32 false (tree.Address 0 0))) tree.Done)))));
  }

  function : ℕ → Function
  function f = f0

alias_update_lawful : (is_lawful_body 128 2 (slice_get (0 ∷ [])) false (let p = alias_update in p.function 0) && true) ≡ true
alias_update_lawful = refl

abbrev alias_update_data : List ℕ
alias_update_data = (1 ∷ 0 ∷ 0 ∷ 0 ∷ 0 ∷ 0 ∷ 0 ∷ 0 ∷ [])

alias_update_runs :
    seen 5 (run alias_update 100000 0 (start 128 24 alias_update_data)) ≡
    record { end = Halted 6; printed = []; reads = 4; writes = 5; bytes = (6 ∷ 0 ∷ 0 ∷ 0 ∷ 11 ∷ []); rest_is_zero = true }
unfolding compared misplaced combined spelled most_bytes
alias_update_runs = refl

alias_update_works : nat_le (work_of (run alias_update 100000 0 (start 128 24 alias_update_data))) 75 ≡ true
unfolding compared misplaced combined spelled most_bytes
alias_update_works = refl

alias_update_tests : (nat_eq (open_tests alias_update (among ((1 ∷ []) ∷ [])) 0) 0 && true) ≡ true
alias_update_tests = refl

-- #include <stdio.h>
-- int a[3]={1,2,3};int n;int i(void){putchar(48+n);return n++;}int main(void){a[i()]+=10;a[i()]++;a[i()]=7;return a[0]*100+a[1]*10+a[2]+n;}
abbrev address_once : Program
address_once = record { limit = 100; function = function } where
  addresses : ℕ → ℕ
  addresses k = slice_index (16 ∷ 28 ∷ []) k

  f0 : Function
  f0 = record {
    address = addresses;
    callee = λ g. g;
    parameters = [];
    frame = 0;
    body = (tree.Evaluate here (tree.Putchar here (tree.Binary here op.Add (tree.Number 48) (tree.Read here kind.I32 false
        (tree.Address 1 0)))) (tree.Return here (Some (tree.Step here kind.I32 (tree.AtAddress false (tree.Address 1 0)) 1
        false)) tree.Done));
  }

  f1 : Function
  f1 = record {
    address = addresses;
    callee = λ g. g;
    parameters = [];
    frame = 0;
    body = (tree.Evaluate here (tree.Update here kind.I32 (tree.AtAddress true (tree.Binary here op.Add (tree.Address 0 0)
        (tree.Binary here op.Multiply (tree.Call here 0 tree.no_expressions) (tree.Number 4)))) op.Add (tree.Number 10))
        (tree.Evaluate here (tree.Step here kind.I32 (tree.AtAddress true (tree.Binary here op.Add (tree.Address 0 0)
        (tree.Binary here op.Multiply (tree.Call here 0 tree.no_expressions) (tree.Number 4)))) 1 false) (tree.Evaluate
        here (tree.Assign here kind.I32 (tree.AtAddress true (tree.Binary here op.Add (tree.Address 0 0) (tree.Binary here
        op.Multiply (tree.Call here 0 tree.no_expressions) (tree.Number 4)))) (tree.Number 7)) (tree.Evaluate here
        (tree.Exit here (tree.Binary here op.Add (tree.Binary here op.Add (tree.Binary here op.Add (tree.Binary here
        op.Multiply (tree.Read here kind.I32 true (tree.Address 0 0)) (tree.Number 100)) (tree.Binary here op.Multiply
        (tree.Read here kind.I32 true (tree.Address 0 4)) (tree.Number 10))) (tree.Read here kind.I32 true (tree.Address 0
        8))) (tree.Read here kind.I32 false (tree.Address 1 0)))) tree.Done))));
  }

  function : ℕ → Function
  function f = (if nat_eq f 0 then f0 else f1)

address_once_lawful : (is_lawful_body 128 1 (slice_get (0 ∷ 0 ∷ [])) true (let p = address_once in p.function 0) && (is_lawful_body 128 1 (slice_get (0 ∷ 0 ∷ [])) false (let p = address_once in p.function 1) && true)) ≡ true
address_once_lawful = refl

abbrev address_once_data : List ℕ
address_once_data = (1 ∷ 0 ∷ 0 ∷ 0 ∷ 2 ∷ 0 ∷ 0 ∷ 0 ∷ 3 ∷ 0 ∷ 0 ∷ 0 ∷ 0 ∷ 0 ∷ 0 ∷ 0 ∷ [])

address_once_runs :
    seen 13 (run address_once 100000 1 (start 128 32 address_once_data)) ≡
    record {
      end = Halted 1140;
      printed = ((([] ++ spelled spell.Byte 48) ++ spelled spell.Byte 49) ++ spelled spell.Byte
          50);
      reads = 12;
      writes = 6;
      bytes = (11 ∷ 0 ∷ 0 ∷ 0 ∷ 3 ∷ 0 ∷ 0 ∷ 0 ∷ 7 ∷ 0 ∷ 0 ∷ 0 ∷ 3 ∷ []);
      rest_is_zero = true;
    }
unfolding compared misplaced combined spelled most_bytes
address_once_runs = refl

address_once_works : nat_le (work_of (run address_once 100000 1 (start 128 32 address_once_data))) 210 ≡ true
unfolding compared misplaced combined spelled most_bytes
address_once_works = refl

address_once_reads : (nat_eq (wanted_reads address_once (among ((0 ∷ []) ∷ [] ∷ [])) 0) 1 && (nat_eq (wanted_reads address_once (among ((0
    ∷ []) ∷ [] ∷ [])) 1) 0 && true)) ≡ true
address_once_reads = refl

address_once_tests : (nat_eq (open_tests address_once (among ((0 ∷ []) ∷ [] ∷ [])) 0) 0 && (nat_eq (open_tests address_once (among ((0 ∷
    []) ∷ [] ∷ [])) 1) 0 && true)) ≡ true
address_once_tests = refl

-- #include <stdio.h>
-- struct s{int a;short b;};struct s t[3]={{1,2},{3,4},{5,6}};int main(void){struct s*p=t;int n=p++->a;n=n*10+p->b;n=n*10+(++p)->a;p--;return n*10+p--->a;}
abbrev step_of_pointer : Program
step_of_pointer = record { limit = 100; function = function } where
  addresses : ℕ → ℕ
  addresses k = slice_index (16 ∷ []) k

  f0 : Function
  f0 = record {
    address = addresses;
    callee = λ g. g;
    parameters = [];
    frame = 0;
    body = (tree.Evaluate here (tree.Assign here kind.I32 (tree.InVariable 1) (tree.Address 0 0)) (tree.Evaluate here
        (tree.Assign here kind.I32 (tree.InVariable 2) (tree.Read here kind.I32 true (tree.Step here kind.I32
        (tree.InVariable 1) 8 false))) (tree.Evaluate here (tree.Assign here kind.I32 (tree.InVariable 2) (tree.Binary
        here op.Add (tree.Binary here op.Multiply (tree.Variable here 2) (tree.Number 10)) (tree.Read here kind.I16 true
        (tree.Binary here op.Add (tree.Variable here 1) (tree.Number 4))))) (tree.Evaluate here (tree.Assign here kind.I32
        (tree.InVariable 2) (tree.Binary here op.Add (tree.Binary here op.Multiply (tree.Variable here 2) (tree.Number
        10)) (tree.Read here kind.I32 true (tree.Step here kind.I32 (tree.InVariable 1) 8 true)))) (tree.Evaluate here
        (tree.Step here kind.I32 (tree.InVariable 1) 4294967288 false) (tree.Evaluate here (tree.Exit here (tree.Binary
        here op.Add (tree.Binary here op.Multiply (tree.Variable here 2) (tree.Number 10)) (tree.Read here kind.I32 true
        (tree.Step here kind.I32 (tree.InVariable 1) 4294967288 false)))) tree.Done))))));
  }

  function : ℕ → Function
  function f = f0

step_of_pointer_lawful : (is_lawful_body 128 3 (slice_get (0 ∷ [])) false (let p = step_of_pointer in p.function 0) && true) ≡ true
step_of_pointer_lawful = refl

abbrev step_of_pointer_data : List ℕ
step_of_pointer_data = (1 ∷ 0 ∷ 0 ∷ 0 ∷ 2 ∷ 0 ∷ 0 ∷ 0 ∷ 3 ∷ 0 ∷ 0 ∷ 0 ∷ 4 ∷ 0 ∷ 0 ∷ 0 ∷ 5 ∷ 0 ∷ 0 ∷ 0 ∷ 6 ∷ 0 ∷ 0 ∷ 0 ∷ [])

step_of_pointer_runs :
    seen 21 (run step_of_pointer 100000 0 (start 128 40 step_of_pointer_data)) ≡
    record {
      end = Halted 1453;
      printed = [];
      reads = 4;
      writes = 0;
      bytes = (1 ∷ 0 ∷ 0 ∷ 0 ∷ 2 ∷ 0 ∷ 0 ∷ 0 ∷ 3 ∷ 0 ∷ 0 ∷
          0 ∷ 4 ∷ 0 ∷ 0 ∷ 0 ∷ 5 ∷ 0 ∷ 0 ∷ 0 ∷ 6 ∷ []);
      rest_is_zero = true;
    }
unfolding compared misplaced combined spelled most_bytes
step_of_pointer_runs = refl

step_of_pointer_works : nat_le (work_of (run step_of_pointer 100000 0 (start 128 40 step_of_pointer_data))) 114 ≡ true
unfolding compared misplaced combined spelled most_bytes
step_of_pointer_works = refl

step_of_pointer_reads : (nat_eq (wanted_reads step_of_pointer (among ((1 ∷ []) ∷ [])) 0) 0 && true) ≡ true
step_of_pointer_reads = refl

step_of_pointer_tests : (nat_eq (open_tests step_of_pointer (among ((1 ∷ []) ∷ [])) 0) 0 && true) ≡ true
step_of_pointer_tests = refl

-- #include <stdio.h>
-- signed char a[2]={-1,127};unsigned char b[2]={255,1};short c[2]={-2,3};unsigned short d[2]={65534,4};int main(void){printf("%d %d %d %d ",a[0],b[0],c[0],d[0]);a[1]++;b[0]++;c[0]-=32767;d[1]=65536+9;printf("%d %d %d %d",a[1],b[0],c[0],d[1]);return 0;}
abbrev kinds_in_memory : Program
kinds_in_memory = record { limit = 100; function = function } where
  addresses : ℕ → ℕ
  addresses k = slice_index (16 ∷ 18 ∷ 20 ∷ 24 ∷ 28 ∷ 41 ∷ []) k

  f0 : Function
  f0 = record {
    address = addresses;
    callee = λ g. g;
    parameters = [];
    frame = 0;
    body = (tree.Print here (tree.expression_then (tree.Read here kind.I8 true (tree.Address 0 0)) (tree.expression_then
        (tree.Read here kind.U8 true (tree.Address 1 0)) (tree.expression_then (tree.Read here kind.I16 true (tree.Address
        2 0)) (tree.expression_then (tree.Read here kind.U16 true (tree.Address 3 0)) tree.no_expressions)))) (piece.Word
        spell.Signed 0 ∷ piece.Byte 32 ∷ piece.Word spell.Signed 1 ∷ piece.Byte 32 ∷ piece.Word spell.Signed 2 ∷
        piece.Byte 32 ∷ piece.Word spell.Signed 3 ∷ piece.Byte 32 ∷ []) (tree.Evaluate here (tree.Step here kind.I8
        (tree.AtAddress true (tree.Address 0 1)) 1 false) (tree.Evaluate here (tree.Step here kind.U8 (tree.AtAddress true
        (tree.Address 1 0)) 1 false) (tree.Evaluate here (tree.Update here kind.I16 (tree.AtAddress true (tree.Address 2
        0)) op.Subtract (tree.Number 32767)) (tree.Evaluate here (tree.Assign here kind.U16 (tree.AtAddress true
        (tree.Address 3 2)) (tree.Number 9)) (tree.Print here (tree.expression_then (tree.Read here kind.I8 true
        (tree.Address 0 1)) (tree.expression_then (tree.Read here kind.U8 true (tree.Address 1 0)) (tree.expression_then
        (tree.Read here kind.I16 true (tree.Address 2 0)) (tree.expression_then (tree.Read here kind.U16 true
        (tree.Address 3 2)) tree.no_expressions)))) (piece.Word spell.Signed 0 ∷ piece.Byte 32 ∷ piece.Word spell.Signed 1
        ∷ piece.Byte 32 ∷ piece.Word spell.Signed 2 ∷ piece.Byte 32 ∷ piece.Word spell.Signed 3 ∷ []) (tree.Evaluate here
        (tree.Exit here (tree.Number 0)) tree.Done)))))));
  }

  function : ℕ → Function
  function f = f0

kinds_in_memory_lawful : (is_lawful_body 128 1 (slice_get (0 ∷ [])) false (let p = kinds_in_memory in p.function 0) && true) ≡ true
kinds_in_memory_lawful = refl

abbrev kinds_in_memory_data : List ℕ
kinds_in_memory_data = (255 ∷ 127 ∷ 255 ∷ 1 ∷ 254 ∷ 255 ∷ 3 ∷ 0 ∷ 254 ∷ 255 ∷ 4 ∷ 0 ∷ 37 ∷ 100 ∷ 32 ∷ 37 ∷ 100 ∷ 32 ∷ 37 ∷ 100 ∷ 32 ∷ 37 ∷
    100 ∷ 32 ∷ 0 ∷ 37 ∷ 100 ∷ 32 ∷ 37 ∷ 100 ∷ 32 ∷ 37 ∷ 100 ∷ 32 ∷ 37 ∷ 100 ∷ 0 ∷ [])

kinds_in_memory_runs :
    seen 36 (run kinds_in_memory 100000 0 (start 128 56 kinds_in_memory_data)) ≡
    record {
      end = Halted 0;
      printed = ((((((((((((((([] ++ spelled spell.Signed 4294967295) ++ (32 ∷ [])) ++ spelled
          spell.Signed 255) ++ (32 ∷ [])) ++ spelled spell.Signed 4294967294) ++ (32 ∷ [])) ++ spelled spell.Signed 65534) ++
          (32 ∷ [])) ++ spelled spell.Signed 4294967168) ++ (32 ∷ [])) ++ spelled spell.Signed 0) ++ (32 ∷ [])) ++ spelled
          spell.Signed 32767) ++ (32 ∷ [])) ++ spelled spell.Signed 9);
      reads = 11;
      writes = 4;
      bytes = (255 ∷ 128 ∷ 0 ∷ 1 ∷ 255
          ∷ 127 ∷ 3 ∷ 0 ∷ 254 ∷ 255 ∷ 9 ∷ 0 ∷ 37 ∷ 100 ∷ 32 ∷ 37 ∷ 100 ∷ 32 ∷ 37 ∷ 100 ∷ 32 ∷ 37 ∷ 100 ∷ 32 ∷ 0 ∷ 37 ∷ 100 ∷ 32
          ∷ 37 ∷ 100 ∷ 32 ∷ 37 ∷ 100 ∷ 32 ∷ 37 ∷ 100 ∷ []);
      rest_is_zero = true;
    }
unfolding compared misplaced combined spelled most_bytes
kinds_in_memory_runs = refl

kinds_in_memory_reads : (nat_eq (wanted_reads kinds_in_memory (among ([] ∷ [])) 0) 0 && true) ≡ true
kinds_in_memory_reads = refl

kinds_in_memory_tests : (nat_eq (open_tests kinds_in_memory (among ([] ∷ [])) 0) 0 && true) ≡ true
kinds_in_memory_tests = refl

-- #include <stdio.h>
-- unsigned a[1];int main(void){unsigned char*p=(unsigned char*)a;a[0]=0x11223344;p[1]=0;printf("%x\n",a[0]);return 0;}
abbrev bytes_of_word : Program
bytes_of_word = record { limit = 100; function = function } where
  addresses : ℕ → ℕ
  addresses k = slice_index (16 ∷ 20 ∷ []) k

  f0 : Function
  f0 = record {
    address = addresses;
    callee = λ g. g;
    parameters = [];
    frame = 0;
    body = (tree.Evaluate here (tree.Assign here kind.I32 (tree.InVariable 1) (tree.Address 0 0)) (tree.Evaluate here
        (tree.Assign here kind.I32 (tree.AtAddress true (tree.Address 0 0)) (tree.Number 287454020)) (tree.Evaluate here
        (tree.Assign here kind.U8 (tree.AtAddress true (tree.Binary here op.Add (tree.Variable here 1) (tree.Number 1)))
        (tree.Number 0)) (tree.Print here (tree.expression_then (tree.Read here kind.I32 true (tree.Address 0 0))
        tree.no_expressions) (piece.Word spell.Hexadecimal 0 ∷ piece.Byte 10 ∷ []) (tree.Evaluate here (tree.Exit here
        (tree.Number 0)) tree.Done)))));
  }

  function : ℕ → Function
  function f = f0

bytes_of_word_lawful : (is_lawful_body 128 2 (slice_get (0 ∷ [])) false (let p = bytes_of_word in p.function 0) && true) ≡ true
bytes_of_word_lawful = refl

abbrev bytes_of_word_data : List ℕ
bytes_of_word_data = (0 ∷ 0 ∷ 0 ∷ 0 ∷ 37 ∷ 120 ∷ 10 ∷ 0 ∷ [])

bytes_of_word_runs :
    seen 7 (run bytes_of_word 100000 0 (start 128 24 bytes_of_word_data)) ≡
    record {
      end = Halted 0;
      printed = (([] ++ spelled spell.Hexadecimal 287440964) ++ (10 ∷ []));
      reads = 1;
      writes = 2;
      bytes = (68 ∷ 0 ∷ 34 ∷ 17 ∷ 37 ∷ 120 ∷ 10 ∷ []);
      rest_is_zero = true;
    }
unfolding compared misplaced combined spelled most_bytes
bytes_of_word_runs = refl

bytes_of_word_reads : (nat_eq (wanted_reads bytes_of_word (among ((1 ∷ []) ∷ [])) 0) 0 && true) ≡ true
bytes_of_word_reads = refl

bytes_of_word_tests : (nat_eq (open_tests bytes_of_word (among ((1 ∷ []) ∷ [])) 0) 0 && true) ≡ true
bytes_of_word_tests = refl

-- #include <stdio.h>
-- int u=10;int v=20;int*q[3]={&u,&v,0};int main(void){int i;for(i=0;i<3;i++)printf("%d\n",*q[i]);return 0;}
abbrev pointers_to_null : Program
pointers_to_null = record { limit = 100; function = function } where
  addresses : ℕ → ℕ
  addresses k = slice_index (16 ∷ 20 ∷ 24 ∷ 36 ∷ []) k

  f0 : Function
  f0 = record {
    address = addresses;
    callee = λ g. g;
    parameters = [];
    frame = 0;
    body = (tree.Evaluate here (tree.Assign here kind.I32 (tree.InVariable 1) (tree.Number 0)) (tree.Evaluate here
        (tree.Assign here kind.I32 (tree.InVariable 1) (tree.Number 0)) (tree.Loop here (Some (tree.Compare here
        rel.LessSigned false (tree.Variable here 1) (tree.Number 3))) (tree.Print here (tree.expression_then (tree.Read
        here kind.I32 true (tree.Read here kind.I32 true (tree.Binary here op.Add (tree.Address 2 0) (tree.Binary here
        op.Multiply (tree.Variable here 1) (tree.Number 4))))) tree.no_expressions) (piece.Word spell.Signed 0 ∷
        piece.Byte 10 ∷ []) tree.Done) (Some (tree.Step here kind.I32 (tree.InVariable 1) 1 false)) (tree.Evaluate here
        (tree.Exit here (tree.Number 0)) tree.Done))));
  }

  function : ℕ → Function
  function f = f0

pointers_to_null_lawful : (is_lawful_body 128 2 (slice_get (0 ∷ [])) false (let p = pointers_to_null in p.function 0) && true) ≡ true
pointers_to_null_lawful = refl

abbrev pointers_to_null_data : List ℕ
pointers_to_null_data = (10 ∷ 0 ∷ 0 ∷ 0 ∷ 20 ∷ 0 ∷ 0 ∷ 0 ∷ 16 ∷ 0 ∷ 0 ∷ 0 ∷ 20 ∷ 0 ∷ 0 ∷ 0 ∷ 0 ∷ 0 ∷ 0 ∷ 0 ∷ 37 ∷ 100 ∷ 10 ∷ 0 ∷ [])

pointers_to_null_runs :
    seen 23 (run pointers_to_null 100000 0 (start 128 40 pointers_to_null_data)) ≡
    record {
      end = Trapped 2;
      printed = (((([] ++ spelled spell.Signed 10) ++ (10 ∷ [])) ++ spelled spell.Signed 20) ++
          (10 ∷ []));
      reads = 5;
      writes = 0;
      bytes = (10 ∷ 0 ∷ 0 ∷ 0 ∷ 20 ∷ 0 ∷ 0 ∷ 0 ∷ 16 ∷ 0 ∷ 0 ∷ 0 ∷ 20 ∷ 0 ∷ 0 ∷ 0 ∷ 0 ∷ 0
          ∷ 0 ∷ 0 ∷ 37 ∷ 100 ∷ 10 ∷ []);
      rest_is_zero = true;
    }
unfolding compared misplaced combined spelled most_bytes
pointers_to_null_runs = refl

pointers_to_null_reads : (nat_eq (wanted_reads pointers_to_null (among ((1 ∷ []) ∷ [])) 0) 1 && true) ≡ true
pointers_to_null_reads = refl

pointers_to_null_tests : (nat_eq (open_tests pointers_to_null (among ((1 ∷ []) ∷ [])) 0) 1 && true) ≡ true
pointers_to_null_tests = refl

-- #include <stdio.h>
-- int a[3]={2,0,1};int b[3]={5,6,7};int main(void){int i;for(i=0;i<3;i++)printf("%d\n",b[a[i]]);return 0;}
abbrev two_tables : Program
two_tables = record { limit = 100; function = function } where
  addresses : ℕ → ℕ
  addresses k = slice_index (16 ∷ 28 ∷ 40 ∷ []) k

  f0 : Function
  f0 = record {
    address = addresses;
    callee = λ g. g;
    parameters = [];
    frame = 0;
    body = (tree.Evaluate here (tree.Assign here kind.I32 (tree.InVariable 1) (tree.Number 0)) (tree.Evaluate here
        (tree.Assign here kind.I32 (tree.InVariable 1) (tree.Number 0)) (tree.Loop here (Some (tree.Compare here
        rel.LessSigned false (tree.Variable here 1) (tree.Number 3))) (tree.Print here (tree.expression_then (tree.Read
        here kind.I32 true (tree.Binary here op.Add (tree.Address 1 0) (tree.Binary here op.Multiply (tree.Read here
        kind.I32 true (tree.Binary here op.Add (tree.Address 0 0) (tree.Binary here op.Multiply (tree.Variable here 1)
        (tree.Number 4)))) (tree.Number 4)))) tree.no_expressions) (piece.Word spell.Signed 0 ∷ piece.Byte 10 ∷ [])
        tree.Done) (Some (tree.Step here kind.I32 (tree.InVariable 1) 1 false)) (tree.Evaluate here (tree.Exit here
        (tree.Number 0)) tree.Done))));
  }

  function : ℕ → Function
  function f = f0

two_tables_lawful : (is_lawful_body 128 2 (slice_get (0 ∷ [])) false (let p = two_tables in p.function 0) && true) ≡ true
two_tables_lawful = refl

abbrev two_tables_data : List ℕ
two_tables_data = (2 ∷ 0 ∷ 0 ∷ 0 ∷ 0 ∷ 0 ∷ 0 ∷ 0 ∷ 1 ∷ 0 ∷ 0 ∷ 0 ∷ 5 ∷ 0 ∷ 0 ∷ 0 ∷ 6 ∷ 0 ∷ 0 ∷ 0 ∷ 7 ∷ 0 ∷ 0 ∷ 0 ∷ 37 ∷ 100 ∷ 10 ∷ 0 ∷
    [])

two_tables_runs :
    seen 27 (run two_tables 100000 0 (start 128 44 two_tables_data)) ≡
    record {
      end = Halted 0;
      printed = (((((([] ++ spelled spell.Signed 7) ++ (10 ∷ [])) ++ spelled spell.Signed 5) ++ (10
          ∷ [])) ++ spelled spell.Signed 6) ++ (10 ∷ []));
      reads = 6;
      writes = 0;
      bytes = (2 ∷ 0 ∷ 0 ∷ 0 ∷ 0 ∷ 0 ∷ 0 ∷ 0 ∷ 1 ∷ 0
          ∷ 0 ∷ 0 ∷ 5 ∷ 0 ∷ 0 ∷ 0 ∷ 6 ∷ 0 ∷ 0 ∷ 0 ∷ 7 ∷ 0 ∷ 0 ∷ 0 ∷ 37 ∷ 100 ∷ 10 ∷ []);
      rest_is_zero = true;
    }
unfolding compared misplaced combined spelled most_bytes
two_tables_runs = refl

two_tables_reads : (nat_eq (wanted_reads two_tables (among ((1 ∷ []) ∷ [])) 0) 1 && true) ≡ true
two_tables_reads = refl

two_tables_tests : (nat_eq (open_tests two_tables (among ((1 ∷ []) ∷ [])) 0) 1 && true) ≡ true
two_tables_tests = refl

-- #include <stdio.h>
-- int x[10];int main(void){int i;x[0]=0;for(i=1;i<10;i++)x[i]=x[i-1]+1;printf("%d\n",x[9]);return 0;}
abbrev chain_of_stores : Program
chain_of_stores = record { limit = 100; function = function } where
  addresses : ℕ → ℕ
  addresses k = slice_index (16 ∷ 56 ∷ []) k

  f0 : Function
  f0 = record {
    address = addresses;
    callee = λ g. g;
    parameters = [];
    frame = 0;
    body = (tree.Evaluate here (tree.Assign here kind.I32 (tree.InVariable 1) (tree.Number 0)) (tree.Evaluate here
        (tree.Assign here kind.I32 (tree.AtAddress true (tree.Address 0 0)) (tree.Number 0)) (tree.Evaluate here
        (tree.Assign here kind.I32 (tree.InVariable 1) (tree.Number 1)) (tree.Loop here (Some (tree.Compare here
        rel.LessSigned false (tree.Variable here 1) (tree.Number 10))) (tree.Evaluate here (tree.Assign here kind.I32
        (tree.AtAddress true (tree.Binary here op.Add (tree.Address 0 0) (tree.Binary here op.Multiply (tree.Variable here
        1) (tree.Number 4)))) (tree.Binary here op.Add (tree.Read here kind.I32 true (tree.Binary here op.Add
        (tree.Address 0 0) (tree.Binary here op.Multiply (tree.Binary here op.Subtract (tree.Variable here 1) (tree.Number
        1)) (tree.Number 4)))) (tree.Number 1))) tree.Done) (Some (tree.Step here kind.I32 (tree.InVariable 1) 1 false))
        (tree.Print here (tree.expression_then (tree.Read here kind.I32 true (tree.Address 0 36)) tree.no_expressions)
        (piece.Word spell.Signed 0 ∷ piece.Byte 10 ∷ []) (tree.Evaluate here (tree.Exit here (tree.Number 0))
        tree.Done))))));
  }

  function : ℕ → Function
  function f = f0

chain_of_stores_lawful : (is_lawful_body 128 2 (slice_get (0 ∷ [])) false (let p = chain_of_stores in p.function 0) && true) ≡ true
chain_of_stores_lawful = refl

abbrev chain_of_stores_data : List ℕ
chain_of_stores_data = (0 ∷ 0 ∷ 0 ∷ 0 ∷ 0 ∷ 0 ∷ 0 ∷ 0 ∷ 0 ∷ 0 ∷ 0 ∷ 0 ∷ 0 ∷ 0 ∷ 0 ∷ 0 ∷ 0 ∷ 0 ∷ 0 ∷ 0 ∷ 0 ∷ 0 ∷ 0 ∷ 0 ∷ 0 ∷ 0 ∷ 0 ∷ 0 ∷ 0 ∷ 0
    ∷ 0 ∷ 0 ∷ 0 ∷ 0 ∷ 0 ∷ 0 ∷ 0 ∷ 0 ∷ 0 ∷ 0 ∷ 37 ∷ 100 ∷ 10 ∷ 0 ∷ [])

chain_of_stores_runs :
    seen 43 (run chain_of_stores 100000 0 (start 128 60 chain_of_stores_data)) ≡
    record {
      end = Halted 0;
      printed = (([] ++ spelled spell.Signed 9) ++ (10 ∷ []));
      reads = 10;
      writes = 10;
      bytes = (0
          ∷ 0 ∷ 0 ∷ 0 ∷ 1 ∷ 0 ∷ 0 ∷ 0 ∷ 2 ∷ 0 ∷ 0 ∷ 0 ∷ 3 ∷ 0 ∷ 0 ∷ 0 ∷ 4 ∷ 0 ∷ 0 ∷ 0 ∷ 5 ∷ 0 ∷ 0 ∷ 0 ∷ 6 ∷ 0 ∷ 0 ∷ 0 ∷ 7 ∷ 0 ∷
          0 ∷ 0 ∷ 8 ∷ 0 ∷ 0 ∷ 0 ∷ 9 ∷ 0 ∷ 0 ∷ 0 ∷ 37 ∷ 100 ∷ 10 ∷ []);
      rest_is_zero = true;
    }
unfolding compared misplaced combined spelled most_bytes
chain_of_stores_runs = refl

chain_of_stores_reads : (nat_eq (wanted_reads chain_of_stores (among ((1 ∷ []) ∷ [])) 0) 0 && true) ≡ true
chain_of_stores_reads = refl

chain_of_stores_tests : (nat_eq (open_tests chain_of_stores (among ((1 ∷ []) ∷ [])) 0) 1 && true) ≡ true
chain_of_stores_tests = refl

-- #include <stdio.h>
-- int s[4];int main(void){int i=0;while(i<4){s[i]=i;i++;}printf("%d\n",s[3]);return 0;}
abbrev filled_array : Program
filled_array = record { limit = 100; function = function } where
  addresses : ℕ → ℕ
  addresses k = slice_index (16 ∷ 32 ∷ []) k

  f0 : Function
  f0 = record {
    address = addresses;
    callee = λ g. g;
    parameters = [];
    frame = 0;
    body = (tree.Evaluate here (tree.Assign here kind.I32 (tree.InVariable 1) (tree.Number 0)) (tree.Loop here (Some
        (tree.Compare here rel.LessSigned false (tree.Variable here 1) (tree.Number 4))) (tree.Evaluate here (tree.Assign
        here kind.I32 (tree.AtAddress true (tree.Binary here op.Add (tree.Address 0 0) (tree.Binary here op.Multiply
        (tree.Variable here 1) (tree.Number 4)))) (tree.Variable here 1)) (tree.Evaluate here (tree.Step here kind.I32
        (tree.InVariable 1) 1 false) tree.Done)) None (tree.Print here (tree.expression_then (tree.Read here kind.I32 true
        (tree.Address 0 12)) tree.no_expressions) (piece.Word spell.Signed 0 ∷ piece.Byte 10 ∷ []) (tree.Evaluate here
        (tree.Exit here (tree.Number 0)) tree.Done))));
  }

  function : ℕ → Function
  function f = f0

filled_array_lawful : (is_lawful_body 128 2 (slice_get (0 ∷ [])) false (let p = filled_array in p.function 0) && true) ≡ true
filled_array_lawful = refl

abbrev filled_array_data : List ℕ
filled_array_data = (0 ∷ 0 ∷ 0 ∷ 0 ∷ 0 ∷ 0 ∷ 0 ∷ 0 ∷ 0 ∷ 0 ∷ 0 ∷ 0 ∷ 0 ∷ 0 ∷ 0 ∷ 0 ∷ 37 ∷ 100 ∷ 10 ∷ 0 ∷ [])

filled_array_runs :
    seen 19 (run filled_array 100000 0 (start 128 36 filled_array_data)) ≡
    record {
      end = Halted 0;
      printed = (([] ++ spelled spell.Signed 3) ++ (10 ∷ []));
      reads = 1;
      writes = 4;
      bytes = (0 ∷
          0 ∷ 0 ∷ 0 ∷ 1 ∷ 0 ∷ 0 ∷ 0 ∷ 2 ∷ 0 ∷ 0 ∷ 0 ∷ 3 ∷ 0 ∷ 0 ∷ 0 ∷ 37 ∷ 100 ∷ 10 ∷ []);
      rest_is_zero = true;
    }
unfolding compared misplaced combined spelled most_bytes
filled_array_runs = refl

filled_array_reads : (nat_eq (wanted_reads filled_array (among ((1 ∷ []) ∷ [])) 0) 0 && true) ≡ true
filled_array_reads = refl

filled_array_tests : (nat_eq (open_tests filled_array (among ((1 ∷ []) ∷ [])) 0) 1 && true) ≡ true
filled_array_tests = refl

-- #include <stdio.h>
-- int k=2;int x[4];int main(void){int j=k;x[j]=j;printf("%d\n",x[2]);return 0;}
abbrev index_in_memory : Program
index_in_memory = record { limit = 100; function = function } where
  addresses : ℕ → ℕ
  addresses k = slice_index (16 ∷ 20 ∷ 36 ∷ []) k

  f0 : Function
  f0 = record {
    address = addresses;
    callee = λ g. g;
    parameters = [];
    frame = 0;
    body = (tree.Evaluate here (tree.Assign here kind.I32 (tree.InVariable 1) (tree.Read here kind.I32 false (tree.Address 0
        0))) (tree.Evaluate here (tree.Assign here kind.I32 (tree.AtAddress true (tree.Binary here op.Add (tree.Address 1
        0) (tree.Binary here op.Multiply (tree.Variable here 1) (tree.Number 4)))) (tree.Variable here 1)) (tree.Print
        here (tree.expression_then (tree.Read here kind.I32 true (tree.Address 1 8)) tree.no_expressions) (piece.Word
        spell.Signed 0 ∷ piece.Byte 10 ∷ []) (tree.Evaluate here (tree.Exit here (tree.Number 0)) tree.Done))));
  }

  function : ℕ → Function
  function f = f0

index_in_memory_lawful : (is_lawful_body 128 2 (slice_get (0 ∷ [])) false (let p = index_in_memory in p.function 0) && true) ≡ true
index_in_memory_lawful = refl

abbrev index_in_memory_data : List ℕ
index_in_memory_data = (2 ∷ 0 ∷ 0 ∷ 0 ∷ 0 ∷ 0 ∷ 0 ∷ 0 ∷ 0 ∷ 0 ∷ 0 ∷ 0 ∷ 0 ∷ 0 ∷ 0 ∷ 0 ∷ 0 ∷ 0 ∷ 0 ∷ 0 ∷ 37 ∷ 100 ∷ 10 ∷ 0 ∷ [])

index_in_memory_runs :
    seen 23 (run index_in_memory 100000 0 (start 128 40 index_in_memory_data)) ≡
    record {
      end = Halted 0;
      printed = (([] ++ spelled spell.Signed 2) ++ (10 ∷ []));
      reads = 2;
      writes = 1;
      bytes = (2 ∷
          0 ∷ 0 ∷ 0 ∷ 0 ∷ 0 ∷ 0 ∷ 0 ∷ 0 ∷ 0 ∷ 0 ∷ 0 ∷ 2 ∷ 0 ∷ 0 ∷ 0 ∷ 0 ∷ 0 ∷ 0 ∷ 0 ∷ 37 ∷ 100 ∷ 10 ∷ []);
      rest_is_zero = true;
    }
unfolding compared misplaced combined spelled most_bytes
index_in_memory_runs = refl

index_in_memory_reads : (nat_eq (wanted_reads index_in_memory (among ((1 ∷ []) ∷ [])) 0) 1 && true) ≡ true
index_in_memory_reads = refl

index_in_memory_tests : (nat_eq (open_tests index_in_memory (among ((1 ∷ []) ∷ [])) 0) 0 && true) ≡ true
index_in_memory_tests = refl

-- int main(void){*(int*)12=1;return 0;}
abbrev write_below : Program
write_below = record { limit = 100; function = function } where
  addresses : ℕ → ℕ
  addresses k = slice_index [] k

  f0 : Function
  f0 = record {
    address = addresses;
    callee = λ g. g;
    parameters = [];
    frame = 0;
    body = (tree.Evaluate here (tree.Assign here kind.I32 (tree.AtAddress true (tree.Number 12)) (tree.Number 1))
        (tree.Evaluate here (tree.Exit here (tree.Number 0)) tree.Done));
  }

  function : ℕ → Function
  function f = f0

write_below_lawful : (is_lawful_body 128 1 (slice_get (0 ∷ [])) false (let p = write_below in p.function 0) && true) ≡ true
write_below_lawful = refl

abbrev write_below_data : List ℕ
write_below_data = []

write_below_runs :
    seen 0 (run write_below 100000 0 (start 128 16 write_below_data)) ≡
    record { end = Trapped 2; printed = []; reads = 0; writes = 0; bytes = []; rest_is_zero = true }
unfolding compared misplaced combined spelled most_bytes
write_below_runs = refl

write_below_works : nat_le (work_of (run write_below 100000 0 (start 128 16 write_below_data))) 24 ≡ true
unfolding compared misplaced combined spelled most_bytes
write_below_works = refl

write_below_reads : (nat_eq (wanted_reads write_below (among ([] ∷ [])) 0) 0 && true) ≡ true
write_below_reads = refl

write_below_tests : (nat_eq (open_tests write_below (among ([] ∷ [])) 0) 0 && true) ≡ true
write_below_tests = refl

-- int main(void){*(int*)124=1;return 0;}
abbrev write_last_word : Program
write_last_word = record { limit = 100; function = function } where
  addresses : ℕ → ℕ
  addresses k = slice_index [] k

  f0 : Function
  f0 = record {
    address = addresses;
    callee = λ g. g;
    parameters = [];
    frame = 0;
    body = (tree.Evaluate here (tree.Assign here kind.I32 (tree.AtAddress true (tree.Number 124)) (tree.Number 1))
        (tree.Evaluate here (tree.Exit here (tree.Number 0)) tree.Done));
  }

  function : ℕ → Function
  function f = f0

write_last_word_lawful : (is_lawful_body 128 1 (slice_get (0 ∷ [])) false (let p = write_last_word in p.function 0) && true) ≡ true
write_last_word_lawful = refl

abbrev write_last_word_data : List ℕ
write_last_word_data = []

write_last_word_runs :
    seen 109 (run write_last_word 100000 0 (start 128 16 write_last_word_data)) ≡
    record {
      end = Halted 0;
      printed = [];
      reads = 0;
      writes = 1;
      bytes = (0 ∷ 0 ∷ 0 ∷ 0 ∷ 0 ∷ 0 ∷ 0 ∷ 0 ∷ 0 ∷ 0 ∷ 0 ∷ 0 ∷
          0 ∷ 0 ∷ 0 ∷ 0 ∷ 0 ∷ 0 ∷ 0 ∷ 0 ∷ 0 ∷ 0 ∷ 0 ∷ 0 ∷ 0 ∷ 0 ∷ 0 ∷ 0 ∷ 0 ∷ 0 ∷ 0 ∷ 0 ∷ 0 ∷ 0 ∷ 0 ∷ 0 ∷ 0 ∷ 0 ∷ 0 ∷ 0 ∷ 0 ∷ 0
          ∷ 0 ∷ 0 ∷ 0 ∷ 0 ∷ 0 ∷ 0 ∷ 0 ∷ 0 ∷ 0 ∷ 0 ∷ 0 ∷ 0 ∷ 0 ∷ 0 ∷ 0 ∷ 0 ∷ 0 ∷ 0 ∷ 0 ∷ 0 ∷ 0 ∷ 0 ∷ 0 ∷ 0 ∷ 0 ∷ 0 ∷ 0 ∷ 0 ∷ 0 ∷
          0 ∷ 0 ∷ 0 ∷ 0 ∷ 0 ∷ 0 ∷ 0 ∷ 0 ∷ 0 ∷ 0 ∷ 0 ∷ 0 ∷ 0 ∷ 0 ∷ 0 ∷ 0 ∷ 0 ∷ 0 ∷ 0 ∷ 0 ∷ 0 ∷ 0 ∷ 0 ∷ 0 ∷ 0 ∷ 0 ∷ 0 ∷ 0 ∷ 0 ∷ 0
          ∷ 0 ∷ 0 ∷ 0 ∷ 0 ∷ 0 ∷ 0 ∷ 0 ∷ 1 ∷ []);
      rest_is_zero = true;
    }
unfolding compared misplaced combined spelled most_bytes
write_last_word_runs = refl

write_last_word_works : nat_le (work_of (run write_last_word 100000 0 (start 128 16 write_last_word_data))) 30 ≡ true
unfolding compared misplaced combined spelled most_bytes
write_last_word_works = refl

write_last_word_reads : (nat_eq (wanted_reads write_last_word (among ([] ∷ [])) 0) 0 && true) ≡ true
write_last_word_reads = refl

write_last_word_tests : (nat_eq (open_tests write_last_word (among ([] ∷ [])) 0) 0 && true) ≡ true
write_last_word_tests = refl

-- int main(void){*(int*)128=1;return 0;}
abbrev write_past_end : Program
write_past_end = record { limit = 100; function = function } where
  addresses : ℕ → ℕ
  addresses k = slice_index [] k

  f0 : Function
  f0 = record {
    address = addresses;
    callee = λ g. g;
    parameters = [];
    frame = 0;
    body = (tree.Evaluate here (tree.Assign here kind.I32 (tree.AtAddress true (tree.Number 128)) (tree.Number 1))
        (tree.Evaluate here (tree.Exit here (tree.Number 0)) tree.Done));
  }

  function : ℕ → Function
  function f = f0

write_past_end_lawful : (is_lawful_body 128 1 (slice_get (0 ∷ [])) false (let p = write_past_end in p.function 0) && true) ≡ true
write_past_end_lawful = refl

abbrev write_past_end_data : List ℕ
write_past_end_data = []

write_past_end_runs :
    seen 0 (run write_past_end 100000 0 (start 128 16 write_past_end_data)) ≡
    record { end = Trapped 2; printed = []; reads = 0; writes = 0; bytes = []; rest_is_zero = true }
unfolding compared misplaced combined spelled most_bytes
write_past_end_runs = refl

write_past_end_works : nat_le (work_of (run write_past_end 100000 0 (start 128 16 write_past_end_data))) 24 ≡ true
unfolding compared misplaced combined spelled most_bytes
write_past_end_works = refl

write_past_end_reads : (nat_eq (wanted_reads write_past_end (among ([] ∷ [])) 0) 0 && true) ≡ true
write_past_end_reads = refl

write_past_end_tests : (nat_eq (open_tests write_past_end (among ([] ∷ [])) 0) 0 && true) ≡ true
write_past_end_tests = refl

-- int main(void){*(int*)18=1;return 0;}
abbrev write_misaligned : Program
write_misaligned = record { limit = 100; function = function } where
  addresses : ℕ → ℕ
  addresses k = slice_index [] k

  f0 : Function
  f0 = record {
    address = addresses;
    callee = λ g. g;
    parameters = [];
    frame = 0;
    body = (tree.Evaluate here (tree.Assign here kind.I32 (tree.AtAddress true (tree.Number 18)) (tree.Number 1))
        (tree.Evaluate here (tree.Exit here (tree.Number 0)) tree.Done));
  }

  function : ℕ → Function
  function f = f0

write_misaligned_lawful : (is_lawful_body 128 1 (slice_get (0 ∷ [])) false (let p = write_misaligned in p.function 0) && true) ≡ true
write_misaligned_lawful = refl

abbrev write_misaligned_data : List ℕ
write_misaligned_data = []

write_misaligned_runs :
    seen 0 (run write_misaligned 100000 0 (start 128 16 write_misaligned_data)) ≡
    record { end = Trapped 3; printed = []; reads = 0; writes = 0; bytes = []; rest_is_zero = true }
unfolding compared misplaced combined spelled most_bytes
write_misaligned_runs = refl

write_misaligned_works : nat_le (work_of (run write_misaligned 100000 0 (start 128 16 write_misaligned_data))) 24 ≡ true
unfolding compared misplaced combined spelled most_bytes
write_misaligned_works = refl

write_misaligned_reads : (nat_eq (wanted_reads write_misaligned (among ([] ∷ [])) 0) 0 && true) ≡ true
write_misaligned_reads = refl

write_misaligned_tests : (nat_eq (open_tests write_misaligned (among ([] ∷ [])) 0) 0 && true) ≡ true
write_misaligned_tests = refl

-- int main(void){return *(char*)15;}
abbrev read_below : Program
read_below = record { limit = 100; function = function } where
  addresses : ℕ → ℕ
  addresses k = slice_index [] k

  f0 : Function
  f0 = record {
    address = addresses;
    callee = λ g. g;
    parameters = [];
    frame = 0;
    body = (tree.Evaluate here (tree.Exit here (tree.Read here kind.U8 true (tree.Number 15))) tree.Done);
  }

  function : ℕ → Function
  function f = f0

read_below_lawful : (is_lawful_body 128 1 (slice_get (0 ∷ [])) false (let p = read_below in p.function 0) && true) ≡ true
read_below_lawful = refl

abbrev read_below_data : List ℕ
read_below_data = []

read_below_runs :
    seen 0 (run read_below 100000 0 (start 128 16 read_below_data)) ≡
    record { end = Trapped 2; printed = []; reads = 0; writes = 0; bytes = []; rest_is_zero = true }
unfolding compared misplaced combined spelled most_bytes
read_below_runs = refl

read_below_works : nat_le (work_of (run read_below 100000 0 (start 128 16 read_below_data))) 18 ≡ true
unfolding compared misplaced combined spelled most_bytes
read_below_works = refl

read_below_reads : (nat_eq (wanted_reads read_below (among ([] ∷ [])) 0) 0 && true) ≡ true
read_below_reads = refl

read_below_tests : (nat_eq (open_tests read_below (among ([] ∷ [])) 0) 0 && true) ≡ true
read_below_tests = refl

-- int main(void){return *(char*)16;}
abbrev read_first : Program
read_first = record { limit = 100; function = function } where
  addresses : ℕ → ℕ
  addresses k = slice_index [] k

  f0 : Function
  f0 = record {
    address = addresses;
    callee = λ g. g;
    parameters = [];
    frame = 0;
    body = (tree.Evaluate here (tree.Exit here (tree.Read here kind.U8 true (tree.Number 16))) tree.Done);
  }

  function : ℕ → Function
  function f = f0

read_first_lawful : (is_lawful_body 128 1 (slice_get (0 ∷ [])) false (let p = read_first in p.function 0) && true) ≡ true
read_first_lawful = refl

abbrev read_first_data : List ℕ
read_first_data = []

read_first_runs :
    seen 0 (run read_first 100000 0 (start 128 16 read_first_data)) ≡
    record { end = Halted 0; printed = []; reads = 1; writes = 0; bytes = []; rest_is_zero = true }
unfolding compared misplaced combined spelled most_bytes
read_first_runs = refl

read_first_works : nat_le (work_of (run read_first 100000 0 (start 128 16 read_first_data))) 18 ≡ true
unfolding compared misplaced combined spelled most_bytes
read_first_works = refl

read_first_reads : (nat_eq (wanted_reads read_first (among ([] ∷ [])) 0) 0 && true) ≡ true
read_first_reads = refl

read_first_tests : (nat_eq (open_tests read_first (among ([] ∷ [])) 0) 0 && true) ≡ true
read_first_tests = refl

-- int main(void){return *(short*)128;}
abbrev read_past_end : Program
read_past_end = record { limit = 100; function = function } where
  addresses : ℕ → ℕ
  addresses k = slice_index [] k

  f0 : Function
  f0 = record {
    address = addresses;
    callee = λ g. g;
    parameters = [];
    frame = 0;
    body = (tree.Evaluate here (tree.Exit here (tree.Read here kind.I16 true (tree.Number 128))) tree.Done);
  }

  function : ℕ → Function
  function f = f0

read_past_end_lawful : (is_lawful_body 128 1 (slice_get (0 ∷ [])) false (let p = read_past_end in p.function 0) && true) ≡ true
read_past_end_lawful = refl

abbrev read_past_end_data : List ℕ
read_past_end_data = []

read_past_end_runs :
    seen 0 (run read_past_end 100000 0 (start 128 16 read_past_end_data)) ≡
    record { end = Trapped 2; printed = []; reads = 0; writes = 0; bytes = []; rest_is_zero = true }
unfolding compared misplaced combined spelled most_bytes
read_past_end_runs = refl

read_past_end_works : nat_le (work_of (run read_past_end 100000 0 (start 128 16 read_past_end_data))) 18 ≡ true
unfolding compared misplaced combined spelled most_bytes
read_past_end_works = refl

read_past_end_reads : (nat_eq (wanted_reads read_past_end (among ([] ∷ [])) 0) 0 && true) ≡ true
read_past_end_reads = refl

read_past_end_tests : (nat_eq (open_tests read_past_end (among ([] ∷ [])) 0) 0 && true) ≡ true
read_past_end_tests = refl

-- int main(void){return *(char*)127+*(short*)126;}
abbrev read_last : Program
read_last = record { limit = 100; function = function } where
  addresses : ℕ → ℕ
  addresses k = slice_index [] k

  f0 : Function
  f0 = record {
    address = addresses;
    callee = λ g. g;
    parameters = [];
    frame = 0;
    body = (tree.Evaluate here (tree.Exit here (tree.Binary here op.Add (tree.Read here kind.U8 true (tree.Number 127))
        (tree.Read here kind.I16 true (tree.Number 126)))) tree.Done);
  }

  function : ℕ → Function
  function f = f0

read_last_lawful : (is_lawful_body 128 1 (slice_get (0 ∷ [])) false (let p = read_last in p.function 0) && true) ≡ true
read_last_lawful = refl

abbrev read_last_data : List ℕ
read_last_data = []

read_last_runs :
    seen 0 (run read_last 100000 0 (start 128 16 read_last_data)) ≡
    record { end = Halted 0; printed = []; reads = 2; writes = 0; bytes = []; rest_is_zero = true }
unfolding compared misplaced combined spelled most_bytes
read_last_runs = refl

read_last_works : nat_le (work_of (run read_last 100000 0 (start 128 16 read_last_data))) 30 ≡ true
unfolding compared misplaced combined spelled most_bytes
read_last_works = refl

read_last_reads : (nat_eq (wanted_reads read_last (among ([] ∷ [])) 0) 0 && true) ≡ true
read_last_reads = refl

read_last_tests : (nat_eq (open_tests read_last (among ([] ∷ [])) 0) 0 && true) ≡ true
read_last_tests = refl

-- int main(void){return *(short*)17;}
abbrev read_misaligned : Program
read_misaligned = record { limit = 100; function = function } where
  addresses : ℕ → ℕ
  addresses k = slice_index [] k

  f0 : Function
  f0 = record {
    address = addresses;
    callee = λ g. g;
    parameters = [];
    frame = 0;
    body = (tree.Evaluate here (tree.Exit here (tree.Read here kind.I16 true (tree.Number 17))) tree.Done);
  }

  function : ℕ → Function
  function f = f0

read_misaligned_lawful : (is_lawful_body 128 1 (slice_get (0 ∷ [])) false (let p = read_misaligned in p.function 0) && true) ≡ true
read_misaligned_lawful = refl

abbrev read_misaligned_data : List ℕ
read_misaligned_data = []

read_misaligned_runs :
    seen 0 (run read_misaligned 100000 0 (start 128 16 read_misaligned_data)) ≡
    record { end = Trapped 3; printed = []; reads = 0; writes = 0; bytes = []; rest_is_zero = true }
unfolding compared misplaced combined spelled most_bytes
read_misaligned_runs = refl

read_misaligned_works : nat_le (work_of (run read_misaligned 100000 0 (start 128 16 read_misaligned_data))) 18 ≡ true
unfolding compared misplaced combined spelled most_bytes
read_misaligned_works = refl

read_misaligned_reads : (nat_eq (wanted_reads read_misaligned (among ([] ∷ [])) 0) 0 && true) ≡ true
read_misaligned_reads = refl

read_misaligned_tests : (nat_eq (open_tests read_misaligned (among ([] ∷ [])) 0) 0 && true) ≡ true
read_misaligned_tests = refl

-- int main(void){short*p=(short*)1;return *p;}
abbrev misaligned_first : Program
misaligned_first = record { limit = 100; function = function } where
  addresses : ℕ → ℕ
  addresses k = slice_index [] k

  f0 : Function
  f0 = record {
    address = addresses;
    callee = λ g. g;
    parameters = [];
    frame = 0;
    body = (tree.Evaluate here (tree.Assign here kind.I32 (tree.InVariable 1) (tree.Number 1)) (tree.Evaluate here (tree.Exit
        here (tree.Read here kind.I16 true (tree.Variable here 1))) tree.Done));
  }

  function : ℕ → Function
  function f = f0

misaligned_first_lawful : (is_lawful_body 128 2 (slice_get (0 ∷ [])) false (let p = misaligned_first in p.function 0) && true) ≡ true
misaligned_first_lawful = refl

abbrev misaligned_first_data : List ℕ
misaligned_first_data = []

misaligned_first_runs :
    seen 0 (run misaligned_first 100000 0 (start 128 16 misaligned_first_data)) ≡
    record { end = Trapped 3; printed = []; reads = 0; writes = 0; bytes = []; rest_is_zero = true }
unfolding compared misplaced combined spelled most_bytes
misaligned_first_runs = refl

misaligned_first_works : nat_le (work_of (run misaligned_first 100000 0 (start 128 16 misaligned_first_data))) 24 ≡ true
unfolding compared misplaced combined spelled most_bytes
misaligned_first_works = refl

misaligned_first_reads : (nat_eq (wanted_reads misaligned_first (among ((1 ∷ []) ∷ [])) 0) 0 && true) ≡ true
misaligned_first_reads = refl

misaligned_first_tests : (nat_eq (open_tests misaligned_first (among ((1 ∷ []) ∷ [])) 0) 0 && true) ≡ true
misaligned_first_tests = refl

-- int main(void){return *(int*)-1;}
abbrev misaligned_past_end : Program
misaligned_past_end = record { limit = 100; function = function } where
  addresses : ℕ → ℕ
  addresses k = slice_index [] k

  f0 : Function
  f0 = record {
    address = addresses;
    callee = λ g. g;
    parameters = [];
    frame = 0;
    body = (tree.Evaluate here (tree.Exit here (tree.Read here kind.I32 true (tree.Number 4294967295))) tree.Done);
  }

  function : ℕ → Function
  function f = f0

misaligned_past_end_lawful : (is_lawful_body 128 1 (slice_get (0 ∷ [])) false (let p = misaligned_past_end in p.function 0) && true) ≡ true
misaligned_past_end_lawful = refl

abbrev misaligned_past_end_data : List ℕ
misaligned_past_end_data = []

misaligned_past_end_runs :
    seen 0 (run misaligned_past_end 100000 0 (start 128 16 misaligned_past_end_data)) ≡
    record { end = Trapped 3; printed = []; reads = 0; writes = 0; bytes = []; rest_is_zero = true }
unfolding compared misplaced combined spelled most_bytes
misaligned_past_end_runs = refl

misaligned_past_end_works : nat_le (work_of (run misaligned_past_end 100000 0 (start 128 16 misaligned_past_end_data))) 21 ≡ true
unfolding compared misplaced combined spelled most_bytes
misaligned_past_end_works = refl

misaligned_past_end_reads : (nat_eq (wanted_reads misaligned_past_end (among ([] ∷ [])) 0) 0 && true) ≡ true
misaligned_past_end_reads = refl

misaligned_past_end_tests : (nat_eq (open_tests misaligned_past_end (among ([] ∷ [])) 0) 0 && true) ≡ true
misaligned_past_end_tests = refl

-- int main(void){return *(char*)-1;}
abbrev byte_past_end : Program
byte_past_end = record { limit = 100; function = function } where
  addresses : ℕ → ℕ
  addresses k = slice_index [] k

  f0 : Function
  f0 = record {
    address = addresses;
    callee = λ g. g;
    parameters = [];
    frame = 0;
    body = (tree.Evaluate here (tree.Exit here (tree.Read here kind.U8 true (tree.Number 4294967295))) tree.Done);
  }

  function : ℕ → Function
  function f = f0

byte_past_end_lawful : (is_lawful_body 128 1 (slice_get (0 ∷ [])) false (let p = byte_past_end in p.function 0) && true) ≡ true
byte_past_end_lawful = refl

abbrev byte_past_end_data : List ℕ
byte_past_end_data = []

byte_past_end_runs :
    seen 0 (run byte_past_end 100000 0 (start 128 16 byte_past_end_data)) ≡
    record { end = Trapped 2; printed = []; reads = 0; writes = 0; bytes = []; rest_is_zero = true }
unfolding compared misplaced combined spelled most_bytes
byte_past_end_runs = refl

byte_past_end_works : nat_le (work_of (run byte_past_end 100000 0 (start 128 16 byte_past_end_data))) 21 ≡ true
unfolding compared misplaced combined spelled most_bytes
byte_past_end_works = refl

byte_past_end_reads : (nat_eq (wanted_reads byte_past_end (among ([] ∷ [])) 0) 0 && true) ≡ true
byte_past_end_reads = refl

byte_past_end_tests : (nat_eq (open_tests byte_past_end (among ([] ∷ [])) 0) 0 && true) ≡ true
byte_past_end_tests = refl

-- #include <stdio.h>
-- int g;int z;int main(void){printf("%d\n",5);g=7;g=g/z;return 0;}
abbrev division_traps : Program
division_traps = record { limit = 100; function = function } where
  addresses : ℕ → ℕ
  addresses k = slice_index (16 ∷ 20 ∷ 24 ∷ []) k

  f0 : Function
  f0 = record {
    address = addresses;
    callee = λ g. g;
    parameters = [];
    frame = 0;
    body = (tree.Print here (tree.expression_then (tree.Number 5) tree.no_expressions) (piece.Word spell.Signed 0 ∷
        piece.Byte 10 ∷ []) (tree.Evaluate here (tree.Assign here kind.I32 (tree.AtAddress false (tree.Address 0 0))
        (tree.Number 7)) (tree.Evaluate here (tree.Assign here kind.I32 (tree.AtAddress false (tree.Address 0 0))
        (tree.Binary here op.DivideSigned (tree.Read here kind.I32 false (tree.Address 0 0)) (tree.Read here kind.I32
        false (tree.Address 1 0)))) (tree.Evaluate here (tree.Exit here (tree.Number 0)) tree.Done))));
  }

  function : ℕ → Function
  function f = f0

division_traps_lawful : (is_lawful_body 128 1 (slice_get (0 ∷ [])) false (let p = division_traps in p.function 0) && true) ≡ true
division_traps_lawful = refl

abbrev division_traps_data : List ℕ
division_traps_data = (0 ∷ 0 ∷ 0 ∷ 0 ∷ 0 ∷ 0 ∷ 0 ∷ 0 ∷ 37 ∷ 100 ∷ 10 ∷ 0 ∷ [])

division_traps_runs :
    seen 11 (run division_traps 100000 0 (start 128 28 division_traps_data)) ≡
    record {
      end = Trapped 1;
      printed = (([] ++ spelled spell.Signed 5) ++ (10 ∷ []));
      reads = 2;
      writes = 1;
      bytes = (7 ∷
          0 ∷ 0 ∷ 0 ∷ 0 ∷ 0 ∷ 0 ∷ 0 ∷ 37 ∷ 100 ∷ 10 ∷ []);
      rest_is_zero = true;
    }
unfolding compared misplaced combined spelled most_bytes
division_traps_runs = refl

division_traps_reads : (nat_eq (wanted_reads division_traps (among ([] ∷ [])) 0) 0 && true) ≡ true
division_traps_reads = refl

division_traps_tests : (nat_eq (open_tests division_traps (among ([] ∷ [])) 0) 0 && true) ≡ true
division_traps_tests = refl

-- int z;int t[2];int main(void){int*p=(int*)2;t[0]=1;*p=1/z;return 0;}
abbrev traps_order : Program
traps_order = record { limit = 100; function = function } where
  addresses : ℕ → ℕ
  addresses k = slice_index (16 ∷ 20 ∷ []) k

  f0 : Function
  f0 = record {
    address = addresses;
    callee = λ g. g;
    parameters = [];
    frame = 0;
    body = (tree.Evaluate here (tree.Assign here kind.I32 (tree.InVariable 1) (tree.Number 2)) (tree.Evaluate here
        (tree.Assign here kind.I32 (tree.AtAddress true (tree.Address 1 0)) (tree.Number 1)) (tree.Evaluate here
        (tree.Assign here kind.I32 (tree.AtAddress true (tree.Variable here 1)) (tree.Binary here op.DivideSigned
        (tree.Number 1) (tree.Read here kind.I32 false (tree.Address 0 0)))) (tree.Evaluate here (tree.Exit here
        (tree.Number 0)) tree.Done))));
  }

  function : ℕ → Function
  function f = f0

traps_order_lawful : (is_lawful_body 128 2 (slice_get (0 ∷ [])) false (let p = traps_order in p.function 0) && true) ≡ true
traps_order_lawful = refl

abbrev traps_order_data : List ℕ
traps_order_data = (0 ∷ 0 ∷ 0 ∷ 0 ∷ 0 ∷ 0 ∷ 0 ∷ 0 ∷ 0 ∷ 0 ∷ 0 ∷ 0 ∷ [])

traps_order_runs :
    seen 5 (run traps_order 100000 0 (start 128 28 traps_order_data)) ≡
    record { end = Trapped 1; printed = []; reads = 1; writes = 1; bytes = (0 ∷ 0 ∷ 0 ∷ 0 ∷ 1 ∷ []); rest_is_zero = true }
unfolding compared misplaced combined spelled most_bytes
traps_order_runs = refl

traps_order_works : nat_le (work_of (run traps_order 100000 0 (start 128 28 traps_order_data))) 54 ≡ true
unfolding compared misplaced combined spelled most_bytes
traps_order_works = refl

traps_order_reads : (nat_eq (wanted_reads traps_order (among ((1 ∷ []) ∷ [])) 0) 0 && true) ≡ true
traps_order_reads = refl

traps_order_tests : (nat_eq (open_tests traps_order (among ((1 ∷ []) ∷ [])) 0) 0 && true) ≡ true
traps_order_tests = refl

-- #include <stdio.h>
-- int z;int main(void){int*p=0;*p=putchar(97);return 0;}
abbrev access_traps_last : Program
access_traps_last = record { limit = 100; function = function } where
  addresses : ℕ → ℕ
  addresses k = slice_index (16 ∷ []) k

  f0 : Function
  f0 = record {
    address = addresses;
    callee = λ g. g;
    parameters = [];
    frame = 0;
    body = (tree.Evaluate here (tree.Assign here kind.I32 (tree.InVariable 1) (tree.Number 0)) (tree.Evaluate here
        (tree.Assign here kind.I32 (tree.AtAddress true (tree.Variable here 1)) (tree.Putchar here (tree.Number 97)))
        (tree.Evaluate here (tree.Exit here (tree.Number 0)) tree.Done)));
  }

  function : ℕ → Function
  function f = f0

access_traps_last_lawful : (is_lawful_body 128 2 (slice_get (0 ∷ [])) false (let p = access_traps_last in p.function 0) && true) ≡ true
access_traps_last_lawful = refl

abbrev access_traps_last_data : List ℕ
access_traps_last_data = (0 ∷ 0 ∷ 0 ∷ 0 ∷ [])

access_traps_last_runs :
    seen 0 (run access_traps_last 100000 0 (start 128 20 access_traps_last_data)) ≡
    record {
      end = Trapped 2;
      printed = ([] ++ spelled spell.Byte 97);
      reads = 0;
      writes = 0;
      bytes = [];
      rest_is_zero =
          true;
    }
unfolding compared misplaced combined spelled most_bytes
access_traps_last_runs = refl

access_traps_last_works : nat_le (work_of (run access_traps_last 100000 0 (start 128 20 access_traps_last_data))) 36 ≡ true
unfolding compared misplaced combined spelled most_bytes
access_traps_last_works = refl

access_traps_last_reads : (nat_eq (wanted_reads access_traps_last (among ((1 ∷ []) ∷ [])) 0) 0 && true) ≡ true
access_traps_last_reads = refl

access_traps_last_tests : (nat_eq (open_tests access_traps_last (among ((1 ∷ []) ∷ [])) 0) 0 && true) ≡ true
access_traps_last_tests = refl

-- #include <stdio.h>
-- int main(void){int*p=(int*)8;*p+=putchar(97);return 0;}
abbrev update_access_first : Program
update_access_first = record { limit = 100; function = function } where
  addresses : ℕ → ℕ
  addresses k = slice_index [] k

  f0 : Function
  f0 = record {
    address = addresses;
    callee = λ g. g;
    parameters = [];
    frame = 0;
    body = (tree.Evaluate here (tree.Assign here kind.I32 (tree.InVariable 1) (tree.Number 8)) (tree.Evaluate here
        (tree.Update here kind.I32 (tree.AtAddress true (tree.Variable here 1)) op.Add (tree.Putchar here (tree.Number
        97))) (tree.Evaluate here (tree.Exit here (tree.Number 0)) tree.Done)));
  }

  function : ℕ → Function
  function f = f0

update_access_first_lawful : (is_lawful_body 128 2 (slice_get (0 ∷ [])) false (let p = update_access_first in p.function 0) && true) ≡ true
update_access_first_lawful = refl

abbrev update_access_first_data : List ℕ
update_access_first_data = []

update_access_first_runs :
    seen 0 (run update_access_first 100000 0 (start 128 16 update_access_first_data)) ≡
    record { end = Trapped 2; printed = []; reads = 0; writes = 0; bytes = []; rest_is_zero = true }
unfolding compared misplaced combined spelled most_bytes
update_access_first_runs = refl

update_access_first_works : nat_le (work_of (run update_access_first 100000 0 (start 128 16 update_access_first_data))) 36 ≡ true
unfolding compared misplaced combined spelled most_bytes
update_access_first_works = refl

update_access_first_reads : (nat_eq (wanted_reads update_access_first (among ((1 ∷ []) ∷ [])) 0) 0 && true) ≡ true
update_access_first_reads = refl

update_access_first_tests : (nat_eq (open_tests update_access_first (among ((1 ∷ []) ∷ [])) 0) 0 && true) ≡ true
update_access_first_tests = refl

-- #include <stdio.h>
-- int*p;int main(void){putchar(97);*p;putchar(98);return 0;}
abbrev unused_read : Program
unused_read = record { limit = 100; function = function } where
  addresses : ℕ → ℕ
  addresses k = slice_index (16 ∷ []) k

  f0 : Function
  f0 = record {
    address = addresses;
    callee = λ g. g;
    parameters = [];
    frame = 0;
    body = (tree.Evaluate here (tree.Putchar here (tree.Number 97)) (tree.Evaluate here (tree.Read here kind.I32 true
        (tree.Read here kind.I32 false (tree.Address 0 0))) (tree.Evaluate here (tree.Putchar here (tree.Number 98))
        (tree.Evaluate here (tree.Exit here (tree.Number 0)) tree.Done))));
  }

  function : ℕ → Function
  function f = f0

unused_read_lawful : (is_lawful_body 128 1 (slice_get (0 ∷ [])) false (let p = unused_read in p.function 0) && true) ≡ true
unused_read_lawful = refl

abbrev unused_read_data : List ℕ
unused_read_data = (0 ∷ 0 ∷ 0 ∷ 0 ∷ [])

unused_read_runs :
    seen 0 (run unused_read 100000 0 (start 128 20 unused_read_data)) ≡
    record {
      end = Trapped 2;
      printed = ([] ++ spelled spell.Byte 97);
      reads = 1;
      writes = 0;
      bytes = [];
      rest_is_zero =
          true;
    }
unfolding compared misplaced combined spelled most_bytes
unused_read_runs = refl

unused_read_works : nat_le (work_of (run unused_read 100000 0 (start 128 20 unused_read_data))) 30 ≡ true
unfolding compared misplaced combined spelled most_bytes
unused_read_works = refl

unused_read_reads : (nat_eq (wanted_reads unused_read (among ([] ∷ [])) 0) 1 && true) ≡ true
unused_read_reads = refl

unused_read_tests : (nat_eq (open_tests unused_read (among ([] ∷ [])) 0) 0 && true) ≡ true
unused_read_tests = refl
