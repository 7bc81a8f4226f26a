-- Examples of expressions: programs, and what an independent implementation of their meaning finds of them. Made by
-- tools/meaning/terms.py.
use Rattle.std.proofs.Common.{◌≡◌, ℕ, true, false, ◌&&◌, ◌∷◌, List, [], ◌++◌, Some, None, nat_eq, if◌then◌else◌, refl}
use Rattle.std.specs.Prelude.{slice_index, slice_get, nat_le}
use Rattle.dae_base.specs.declared.LoadKind.TheVariants as kind
use Rattle.dae_meaning.specs.Operations.{compared, misplaced, combined, spelled}
use Rattle.dae_meaning.specs.Results.{Halted, Trapped}
use Rattle.dae_meaning.specs.declared.Operator.TheVariants as op
use Rattle.dae_meaning.specs.declared.Comparison.TheVariants as rel
use Rattle.dae_meaning.specs.declared.Spelling.TheVariants as spell
use Rattle.dae_program.specs.declared.statements.FormatPiece.TheVariants as piece
use Rattle.dae_program.specs.Trees as tree
use Rattle.dae_program.specs.Trees.{Program, Function}
use Rattle.dae_program.specs.Printing.{most_bytes}
use Rattle.dae_program.specs.Programs.{run, start}
use Rattle.dae_program.specs.Lawful.{is_lawful_body}
use Rattle.dae_program.specs.Wanted.{wanted_reads, open_tests}
use Rattle.dae_program_tests.proofs.Seen.{here, seen, work_of, among}

-- unsigned char c=250;signed char d=127;short s=32767;int main(void){c+=10;d++;s++;return (c<<16)+(d&255)*256+(s==-32768)+(c--==4)*2+(~d>>4);}
abbrev wraps : Program
wraps = record { limit = 100; function = function } where
  addresses : ℕ → ℕ
  addresses k = slice_index (16 ∷ 17 ∷ 18 ∷ []) k

  f0 : Function
  f0 = record {
    address = addresses;
    callee = λ g. g;
    parameters = [];
    frame = 0;
    body = (tree.Evaluate here (tree.Update here kind.U8 (tree.AtAddress false (tree.Address 0 0)) op.Add (tree.Number 10))
        (tree.Evaluate here (tree.Step here kind.I8 (tree.AtAddress false (tree.Address 1 0)) 1 false) (tree.Evaluate here
        (tree.Step here kind.I16 (tree.AtAddress false (tree.Address 2 0)) 1 false) (tree.Evaluate here (tree.Exit here
        (tree.Binary here op.Add (tree.Binary here op.Add (tree.Binary here op.Add (tree.Binary here op.Add (tree.Binary
        here op.ShiftLeft (tree.Read here kind.U8 false (tree.Address 0 0)) (tree.Number 16)) (tree.Binary here
        op.Multiply (tree.Binary here op.And (tree.Read here kind.I8 false (tree.Address 1 0)) (tree.Number 255))
        (tree.Number 256))) (tree.Compare here rel.Equal false (tree.Read here kind.I16 false (tree.Address 2 0))
        (tree.Number 4294934528))) (tree.Binary here op.Multiply (tree.Compare here rel.Equal false (tree.Step here
        kind.U8 (tree.AtAddress false (tree.Address 0 0)) 4294967295 false) (tree.Number 4)) (tree.Number 2)))
        (tree.Binary here op.ShiftRightSigned (tree.Binary here op.Xor (tree.Read here kind.I8 false (tree.Address 1 0))
        (tree.Number 4294967295)) (tree.Number 4)))) tree.Done))));
  }

  function : ℕ → Function
  function f = f0

wraps_lawful : (is_lawful_body 128 1 (slice_get (0 ∷ [])) false (let p = wraps in p.function 0) && true) ≡ true
wraps_lawful = refl

abbrev wraps_data : List ℕ
wraps_data = (250 ∷ 127 ∷ 255 ∷ 127 ∷ [])

wraps_runs :
    seen 4 (run wraps 100000 0 (start 128 20 wraps_data)) ≡
    record {
      end = Halted 294922;
      printed = [];
      reads = 8;
      writes = 4;
      bytes = (3 ∷ 128 ∷ 0 ∷ 128 ∷ []);
      rest_is_zero =
          true;
    }
unfolding compared misplaced combined spelled most_bytes
wraps_runs = refl

wraps_works : nat_le (work_of (run wraps 100000 0 (start 128 20 wraps_data))) 117 ≡ true
unfolding compared misplaced combined spelled most_bytes
wraps_works = refl

wraps_reads : (nat_eq (wanted_reads wraps (among ([] ∷ [])) 0) 0 && true) ≡ true
wraps_reads = refl

wraps_tests : (nat_eq (open_tests wraps (among ([] ∷ [])) 0) 0 && true) ≡ true
wraps_tests = refl

-- #include <stdio.h>
-- int g;int main(void){g=2147483647;g=g+1;printf("%d\n",g);return 0;}
abbrev sum_wraps : Program
sum_wraps = record { limit = 100; function = function } where
  addresses : ℕ → ℕ
  addresses k = slice_index (16 ∷ 20 ∷ []) k

  f0 : Function
  f0 = record {
    address = addresses;
    callee = λ g. g;
    parameters = [];
    frame = 0;
    body = (tree.Evaluate here (tree.Assign here kind.I32 (tree.AtAddress false (tree.Address 0 0)) (tree.Number 2147483647))
        (tree.Evaluate here (tree.Assign here kind.I32 (tree.AtAddress false (tree.Address 0 0)) (tree.Binary here op.Add
        (tree.Read here kind.I32 false (tree.Address 0 0)) (tree.Number 1))) (tree.Print here (tree.expression_then
        (tree.Read here kind.I32 false (tree.Address 0 0)) tree.no_expressions) (piece.Word spell.Signed 0 ∷ piece.Byte 10
        ∷ []) (tree.Evaluate here (tree.Exit here (tree.Number 0)) tree.Done))));
  }

  function : ℕ → Function
  function f = f0

sum_wraps_lawful : (is_lawful_body 128 1 (slice_get (0 ∷ [])) false (let p = sum_wraps in p.function 0) && true) ≡ true
sum_wraps_lawful = refl

abbrev sum_wraps_data : List ℕ
sum_wraps_data = (0 ∷ 0 ∷ 0 ∷ 0 ∷ 37 ∷ 100 ∷ 10 ∷ 0 ∷ [])

sum_wraps_runs :
    seen 7 (run sum_wraps 100000 0 (start 128 24 sum_wraps_data)) ≡
    record {
      end = Halted 0;
      printed = (([] ++ spelled spell.Signed 2147483648) ++ (10 ∷ []));
      reads = 2;
      writes = 2;
      bytes = (0 ∷ 0 ∷ 0 ∷ 128 ∷ 37 ∷ 100 ∷ 10 ∷ []);
      rest_is_zero = true;
    }
unfolding compared misplaced combined spelled most_bytes
sum_wraps_runs = refl

sum_wraps_reads : (nat_eq (wanted_reads sum_wraps (among ([] ∷ [])) 0) 0 && true) ≡ true
sum_wraps_reads = refl

sum_wraps_tests : (nat_eq (open_tests sum_wraps (among ([] ∷ [])) 0) 0 && true) ≡ true
sum_wraps_tests = refl

-- #include <stdio.h>
-- int a;int b;int c;int d;int e;int main(void){a=1;b=2;c=3;d=4;e=5;printf("%d\n",a+b*c-d+e);return 0;}
abbrev sum_of_five : Program
sum_of_five = record { limit = 100; function = function } where
  addresses : ℕ → ℕ
  addresses k = slice_index (16 ∷ 20 ∷ 24 ∷ 28 ∷ 32 ∷ 36 ∷ []) k

  f0 : Function
  f0 = record {
    address = addresses;
    callee = λ g. g;
    parameters = [];
    frame = 0;
    body = (tree.Evaluate here (tree.Assign here kind.I32 (tree.AtAddress false (tree.Address 0 0)) (tree.Number 1))
        (tree.Evaluate here (tree.Assign here kind.I32 (tree.AtAddress false (tree.Address 1 0)) (tree.Number 2))
        (tree.Evaluate here (tree.Assign here kind.I32 (tree.AtAddress false (tree.Address 2 0)) (tree.Number 3))
        (tree.Evaluate here (tree.Assign here kind.I32 (tree.AtAddress false (tree.Address 3 0)) (tree.Number 4))
        (tree.Evaluate here (tree.Assign here kind.I32 (tree.AtAddress false (tree.Address 4 0)) (tree.Number 5))
        (tree.Print here (tree.expression_then (tree.Binary here op.Add (tree.Binary here op.Subtract (tree.Binary here
        op.Add (tree.Read here kind.I32 false (tree.Address 0 0)) (tree.Binary here op.Multiply (tree.Read here kind.I32
        false (tree.Address 1 0)) (tree.Read here kind.I32 false (tree.Address 2 0)))) (tree.Read here kind.I32 false
        (tree.Address 3 0))) (tree.Read here kind.I32 false (tree.Address 4 0))) tree.no_expressions) (piece.Word
        spell.Signed 0 ∷ piece.Byte 10 ∷ []) (tree.Evaluate here (tree.Exit here (tree.Number 0)) tree.Done)))))));
  }

  function : ℕ → Function
  function f = f0

sum_of_five_lawful : (is_lawful_body 128 1 (slice_get (0 ∷ [])) false (let p = sum_of_five in p.function 0) && true) ≡ true
sum_of_five_lawful = refl

abbrev sum_of_five_data : List ℕ
sum_of_five_data = (0 ∷ 0 ∷ 0 ∷ 0 ∷ 0 ∷ 0 ∷ 0 ∷ 0 ∷ 0 ∷ 0 ∷ 0 ∷ 0 ∷ 0 ∷ 0 ∷ 0 ∷ 0 ∷ 0 ∷ 0 ∷ 0 ∷ 0 ∷ 37 ∷ 100 ∷ 10 ∷ 0 ∷ [])

sum_of_five_runs :
    seen 23 (run sum_of_five 100000 0 (start 128 40 sum_of_five_data)) ≡
    record {
      end = Halted 0;
      printed = (([] ++ spelled spell.Signed 8) ++ (10 ∷ []));
      reads = 5;
      writes = 5;
      bytes = (1 ∷
          0 ∷ 0 ∷ 0 ∷ 2 ∷ 0 ∷ 0 ∷ 0 ∷ 3 ∷ 0 ∷ 0 ∷ 0 ∷ 4 ∷ 0 ∷ 0 ∷ 0 ∷ 5 ∷ 0 ∷ 0 ∷ 0 ∷ 37 ∷ 100 ∷ 10 ∷ []);
      rest_is_zero = true;
    }
unfolding compared misplaced combined spelled most_bytes
sum_of_five_runs = refl

sum_of_five_reads : (nat_eq (wanted_reads sum_of_five (among ([] ∷ [])) 0) 0 && true) ≡ true
sum_of_five_reads = refl

sum_of_five_tests : (nat_eq (open_tests sum_of_five (among ([] ∷ [])) 0) 0 && true) ≡ true
sum_of_five_tests = refl

-- #include <stdio.h>
-- int main(void){printf("%d %d\n",-7/2,-7%2);return 0;}
abbrev signed_division : Program
signed_division = record { limit = 100; function = function } where
  addresses : ℕ → ℕ
  addresses k = slice_index (16 ∷ []) k

  f0 : Function
  f0 = record {
    address = addresses;
    callee = λ g. g;
    parameters = [];
    frame = 0;
    body = (tree.Print here (tree.expression_then (tree.Number 4294967293) (tree.expression_then (tree.Number 4294967295)
        tree.no_expressions)) (piece.Word spell.Signed 0 ∷ piece.Byte 32 ∷ piece.Word spell.Signed 1 ∷ piece.Byte 10 ∷ [])
        (tree.Evaluate here (tree.Exit here (tree.Number 0)) tree.Done));
  }

  function : ℕ → Function
  function f = f0

signed_division_lawful : (is_lawful_body 128 1 (slice_get (0 ∷ [])) false (let p = signed_division in p.function 0) && true) ≡ true
signed_division_lawful = refl

abbrev signed_division_data : List ℕ
signed_division_data = (37 ∷ 100 ∷ 32 ∷ 37 ∷ 100 ∷ 10 ∷ 0 ∷ [])

signed_division_runs :
    seen 6 (run signed_division 100000 0 (start 128 24 signed_division_data)) ≡
    record {
      end = Halted 0;
      printed = (((([] ++ spelled spell.Signed 4294967293) ++ (32 ∷ [])) ++ spelled spell.Signed
          4294967295) ++ (10 ∷ []));
      reads = 0;
      writes = 0;
      bytes = (37 ∷ 100 ∷ 32 ∷ 37 ∷ 100 ∷ 10 ∷ []);
      rest_is_zero = true;
    }
unfolding compared misplaced combined spelled most_bytes
signed_division_runs = refl

signed_division_reads : (nat_eq (wanted_reads signed_division (among ([] ∷ [])) 0) 0 && true) ≡ true
signed_division_reads = refl

signed_division_tests : (nat_eq (open_tests signed_division (among ([] ∷ [])) 0) 0 && true) ≡ true
signed_division_tests = refl

-- #include <stdio.h>
-- int main(void){int m=-2147483647-1;int d=-1;printf("%d %d\n",m/d,m%d);return 0;}
abbrev least_divided : Program
least_divided = record { limit = 100; function = function } where
  addresses : ℕ → ℕ
  addresses k = slice_index (16 ∷ []) k

  f0 : Function
  f0 = record {
    address = addresses;
    callee = λ g. g;
    parameters = [];
    frame = 0;
    body = (tree.Evaluate here (tree.Assign here kind.I32 (tree.InVariable 1) (tree.Number 2147483648)) (tree.Evaluate here
        (tree.Assign here kind.I32 (tree.InVariable 2) (tree.Number 4294967295)) (tree.Print here (tree.expression_then
        (tree.Binary here op.DivideSigned (tree.Variable here 1) (tree.Variable here 2)) (tree.expression_then
        (tree.Binary here op.RemainderSigned (tree.Variable here 1) (tree.Variable here 2)) tree.no_expressions))
        (piece.Word spell.Signed 0 ∷ piece.Byte 32 ∷ piece.Word spell.Signed 1 ∷ piece.Byte 10 ∷ []) (tree.Evaluate here
        (tree.Exit here (tree.Number 0)) tree.Done))));
  }

  function : ℕ → Function
  function f = f0

least_divided_lawful : (is_lawful_body 128 3 (slice_get (0 ∷ [])) false (let p = least_divided in p.function 0) && true) ≡ true
least_divided_lawful = refl

abbrev least_divided_data : List ℕ
least_divided_data = (37 ∷ 100 ∷ 32 ∷ 37 ∷ 100 ∷ 10 ∷ 0 ∷ [])

least_divided_runs :
    seen 6 (run least_divided 100000 0 (start 128 24 least_divided_data)) ≡
    record {
      end = Halted 0;
      printed = (((([] ++ spelled spell.Signed 2147483648) ++ (32 ∷ [])) ++ spelled spell.Signed 0)
          ++ (10 ∷ []));
      reads = 0;
      writes = 0;
      bytes = (37 ∷ 100 ∷ 32 ∷ 37 ∷ 100 ∷ 10 ∷ []);
      rest_is_zero = true;
    }
unfolding compared misplaced combined spelled most_bytes
least_divided_runs = refl

least_divided_reads : (nat_eq (wanted_reads least_divided (among ([] ∷ [])) 0) 0 && true) ≡ true
least_divided_reads = refl

least_divided_tests : (nat_eq (open_tests least_divided (among ([] ∷ [])) 0) 0 && true) ≡ true
least_divided_tests = refl

-- int main(void){int m=-17;unsigned u=4000000000u;int k=33;return (m>>2)+(int)(u>>30)+(m<<k)+(m/5)*(m%5)+(int)(u%7)+(u/1000000000>3)+(m<0)+(u<1);}
abbrev shifts : Program
shifts = record { limit = 100; function = function } where
  addresses : ℕ → ℕ
  addresses k = slice_index [] k

  f0 : Function
  f0 = record {
    address = addresses;
    callee = λ g. g;
    parameters = [];
    frame = 0;
    body = (tree.Evaluate here (tree.Assign here kind.I32 (tree.InVariable 1) (tree.Number 4294967279)) (tree.Evaluate here
        (tree.Assign here kind.I32 (tree.InVariable 2) (tree.Number 4000000000)) (tree.Evaluate here (tree.Assign here
        kind.I32 (tree.InVariable 3) (tree.Number 33)) (tree.Evaluate here (tree.Exit here (tree.Binary here op.Add
        (tree.Binary here op.Add (tree.Binary here op.Add (tree.Binary here op.Add (tree.Binary here op.Add (tree.Binary
        here op.Add (tree.Binary here op.Add (tree.Binary here op.ShiftRightSigned (tree.Variable here 1) (tree.Number 2))
        (tree.Binary here op.ShiftRightUnsigned (tree.Variable here 2) (tree.Number 30))) (tree.Binary here op.ShiftLeft
        (tree.Variable here 1) (tree.Variable here 3))) (tree.Binary here op.Multiply (tree.Binary here op.DivideSigned
        (tree.Variable here 1) (tree.Number 5)) (tree.Binary here op.RemainderSigned (tree.Variable here 1) (tree.Number
        5)))) (tree.Binary here op.RemainderUnsigned (tree.Variable here 2) (tree.Number 7))) (tree.Compare here
        rel.LessUnsigned true (tree.Binary here op.DivideUnsigned (tree.Variable here 2) (tree.Number 1000000000))
        (tree.Number 3))) (tree.Compare here rel.LessSigned false (tree.Variable here 1) (tree.Number 0))) (tree.Compare
        here rel.LessUnsigned false (tree.Variable here 2) (tree.Number 1)))) tree.Done))));
  }

  function : ℕ → Function
  function f = f0

shifts_lawful : (is_lawful_body 128 4 (slice_get (0 ∷ [])) false (let p = shifts in p.function 0) && true) ≡ true
shifts_lawful = refl

abbrev shifts_data : List ℕ
shifts_data = []

shifts_runs :
    seen 0 (run shifts 100000 0 (start 128 16 shifts_data)) ≡
    record { end = Halted 4294967271; printed = []; reads = 0; writes = 0; bytes = []; rest_is_zero = true }
unfolding compared misplaced combined spelled most_bytes
shifts_runs = refl

shifts_works : nat_le (work_of (run shifts 100000 0 (start 128 16 shifts_data))) 147 ≡ true
unfolding compared misplaced combined spelled most_bytes
shifts_works = refl

shifts_reads : (nat_eq (wanted_reads shifts (among ([] ∷ [])) 0) 0 && true) ≡ true
shifts_reads = refl

shifts_tests : (nat_eq (open_tests shifts (among ([] ∷ [])) 0) 0 && true) ≡ true
shifts_tests = refl

-- #include <stdio.h>
-- int main(void){int k=37;int m=-64;unsigned u=0x80000001u;printf("%d %d %u %u",m>>k,1<<k,u>>k,u<<(k+27));return 0;}
abbrev shifts_by_much : Program
shifts_by_much = record { limit = 100; function = function } where
  addresses : ℕ → ℕ
  addresses k = slice_index (16 ∷ []) k

  f0 : Function
  f0 = record {
    address = addresses;
    callee = λ g. g;
    parameters = [];
    frame = 0;
    body = (tree.Evaluate here (tree.Assign here kind.I32 (tree.InVariable 1) (tree.Number 37)) (tree.Evaluate here
        (tree.Assign here kind.I32 (tree.InVariable 2) (tree.Number 4294967232)) (tree.Evaluate here (tree.Assign here
        kind.I32 (tree.InVariable 3) (tree.Number 2147483649)) (tree.Print here (tree.expression_then (tree.Binary here
        op.ShiftRightSigned (tree.Variable here 2) (tree.Variable here 1)) (tree.expression_then (tree.Binary here
        op.ShiftLeft (tree.Number 1) (tree.Variable here 1)) (tree.expression_then (tree.Binary here op.ShiftRightUnsigned
        (tree.Variable here 3) (tree.Variable here 1)) (tree.expression_then (tree.Binary here op.ShiftLeft (tree.Variable
        here 3) (tree.Binary here op.Add (tree.Variable here 1) (tree.Number 27))) tree.no_expressions)))) (piece.Word
        spell.Signed 0 ∷ piece.Byte 32 ∷ piece.Word spell.Signed 1 ∷ piece.Byte 32 ∷ piece.Word spell.Unsigned 2 ∷
        piece.Byte 32 ∷ piece.Word spell.Unsigned 3 ∷ []) (tree.Evaluate here (tree.Exit here (tree.Number 0))
        tree.Done)))));
  }

  function : ℕ → Function
  function f = f0

shifts_by_much_lawful : (is_lawful_body 128 4 (slice_get (0 ∷ [])) false (let p = shifts_by_much in p.function 0) && true) ≡ true
shifts_by_much_lawful = refl

abbrev shifts_by_much_data : List ℕ
shifts_by_much_data = (37 ∷ 100 ∷ 32 ∷ 37 ∷ 100 ∷ 32 ∷ 37 ∷ 117 ∷ 32 ∷ 37 ∷ 117 ∷ 0 ∷ [])

shifts_by_much_runs :
    seen 11 (run shifts_by_much 100000 0 (start 128 28 shifts_by_much_data)) ≡
    record {
      end = Halted 0;
      printed = ((((((([] ++ spelled spell.Signed 4294967294) ++ (32 ∷ [])) ++ spelled spell.Signed
          32) ++ (32 ∷ [])) ++ spelled spell.Unsigned 67108864) ++ (32 ∷ [])) ++ spelled spell.Unsigned 2147483649);
      reads = 0;
      writes = 0;
      bytes = (37 ∷ 100 ∷ 32 ∷ 37 ∷ 100 ∷ 32 ∷ 37 ∷ 117 ∷ 32 ∷ 37 ∷ 117 ∷ []);
      rest_is_zero = true;
    }
unfolding compared misplaced combined spelled most_bytes
shifts_by_much_runs = refl

shifts_by_much_reads : (nat_eq (wanted_reads shifts_by_much (among ([] ∷ [])) 0) 0 && true) ≡ true
shifts_by_much_reads = refl

shifts_by_much_tests : (nat_eq (open_tests shifts_by_much (among ([] ∷ [])) 0) 0 && true) ≡ true
shifts_by_much_tests = refl

-- #include <stdio.h>
-- int main(void){int a=-2000000011;int b=7;unsigned u=2294967285u;printf("%d %d %d %d %d ",a+b,a-b,a*b,a/b,a%b);printf("%u %u %d %d %d ",u/b,u%b,a&b,a|b,a^b);printf("%d %d %u %d %d",a<<b,a>>b,u>>b,~a,-a);return 0;}
abbrev operators : Program
operators = record { limit = 100; function = function } where
  addresses : ℕ → ℕ
  addresses k = slice_index (16 ∷ 32 ∷ 48 ∷ []) k

  f0 : Function
  f0 = record {
    address = addresses;
    callee = λ g. g;
    parameters = [];
    frame = 0;
    body = (tree.Evaluate here (tree.Assign here kind.I32 (tree.InVariable 1) (tree.Number 2294967285)) (tree.Evaluate here
        (tree.Assign here kind.I32 (tree.InVariable 2) (tree.Number 7)) (tree.Evaluate here (tree.Assign here kind.I32
        (tree.InVariable 3) (tree.Number 2294967285)) (tree.Print here (tree.expression_then (tree.Binary here op.Add
        (tree.Variable here 1) (tree.Variable here 2)) (tree.expression_then (tree.Binary here op.Subtract (tree.Variable
        here 1) (tree.Variable here 2)) (tree.expression_then (tree.Binary here op.Multiply (tree.Variable here 1)
        (tree.Variable here 2)) (tree.expression_then (tree.Binary here op.DivideSigned (tree.Variable here 1)
        (tree.Variable here 2)) (tree.expression_then (tree.Binary here op.RemainderSigned (tree.Variable here 1)
        (tree.Variable here 2)) tree.no_expressions))))) (piece.Word spell.Signed 0 ∷ piece.Byte 32 ∷ piece.Word
        spell.Signed 1 ∷ piece.Byte 32 ∷ piece.Word spell.Signed 2 ∷ piece.Byte 32 ∷ piece.Word spell.Signed 3 ∷
        piece.Byte 32 ∷ piece.Word spell.Signed 4 ∷ piece.Byte 32 ∷ []) (tree.Print here (tree.expression_then
        (tree.Binary here op.DivideUnsigned (tree.Variable here 3) (tree.Variable here 2)) (tree.expression_then
        (tree.Binary here op.RemainderUnsigned (tree.Variable here 3) (tree.Variable here 2)) (tree.expression_then
        (tree.Binary here op.And (tree.Variable here 1) (tree.Variable here 2)) (tree.expression_then (tree.Binary here
        op.Or (tree.Variable here 1) (tree.Variable here 2)) (tree.expression_then (tree.Binary here op.Xor (tree.Variable
        here 1) (tree.Variable here 2)) tree.no_expressions))))) (piece.Word spell.Unsigned 0 ∷ piece.Byte 32 ∷ piece.Word
        spell.Unsigned 1 ∷ piece.Byte 32 ∷ piece.Word spell.Signed 2 ∷ piece.Byte 32 ∷ piece.Word spell.Signed 3 ∷
        piece.Byte 32 ∷ piece.Word spell.Signed 4 ∷ piece.Byte 32 ∷ []) (tree.Print here (tree.expression_then
        (tree.Binary here op.ShiftLeft (tree.Variable here 1) (tree.Variable here 2)) (tree.expression_then (tree.Binary
        here op.ShiftRightSigned (tree.Variable here 1) (tree.Variable here 2)) (tree.expression_then (tree.Binary here
        op.ShiftRightUnsigned (tree.Variable here 3) (tree.Variable here 2)) (tree.expression_then (tree.Binary here
        op.Xor (tree.Variable here 1) (tree.Number 4294967295)) (tree.expression_then (tree.Binary here op.Subtract
        (tree.Number 0) (tree.Variable here 1)) tree.no_expressions))))) (piece.Word spell.Signed 0 ∷ piece.Byte 32 ∷
        piece.Word spell.Signed 1 ∷ piece.Byte 32 ∷ piece.Word spell.Unsigned 2 ∷ piece.Byte 32 ∷ piece.Word spell.Signed
        3 ∷ piece.Byte 32 ∷ piece.Word spell.Signed 4 ∷ []) (tree.Evaluate here (tree.Exit here (tree.Number 0))
        tree.Done)))))));
  }

  function : ℕ → Function
  function f = f0

operators_lawful : (is_lawful_body 128 4 (slice_get (0 ∷ [])) false (let p = operators in p.function 0) && true) ≡ true
operators_lawful = refl

abbrev operators_data : List ℕ
operators_data = (37 ∷ 100 ∷ 32 ∷ 37 ∷ 100 ∷ 32 ∷ 37 ∷ 100 ∷ 32 ∷ 37 ∷ 100 ∷ 32 ∷ 37 ∷ 100 ∷ 32 ∷ 0 ∷ 37 ∷ 117 ∷ 32 ∷ 37 ∷ 117 ∷ 32 ∷
    37 ∷ 100 ∷ 32 ∷ 37 ∷ 100 ∷ 32 ∷ 37 ∷ 100 ∷ 32 ∷ 0 ∷ 37 ∷ 100 ∷ 32 ∷ 37 ∷ 100 ∷ 32 ∷ 37 ∷ 117 ∷ 32 ∷ 37 ∷ 100 ∷ 32 ∷ 37
    ∷ 100 ∷ 0 ∷ [])

operators_runs :
    seen 46 (run operators 100000 0 (start 128 64 operators_data)) ≡
    record {
      end = Halted 0;
      printed = ((((((((((((((((((((((((((((([] ++ spelled spell.Signed 2294967292) ++ (32 ∷ []))
          ++ spelled spell.Signed 2294967278) ++ (32 ∷ [])) ++ spelled spell.Signed 3179869107) ++ (32 ∷ [])) ++ spelled
          spell.Signed 4009253009) ++ (32 ∷ [])) ++ spelled spell.Signed 4294967294) ++ (32 ∷ [])) ++ spelled spell.Unsigned
          327852469) ++ (32 ∷ [])) ++ spelled spell.Unsigned 2) ++ (32 ∷ [])) ++ spelled spell.Signed 5) ++ (32 ∷ [])) ++
          spelled spell.Signed 2294967287) ++ (32 ∷ [])) ++ spelled spell.Signed 2294967282) ++ (32 ∷ [])) ++ spelled
          spell.Signed 1698036352) ++ (32 ∷ [])) ++ spelled spell.Signed 4279342295) ++ (32 ∷ [])) ++ spelled spell.Unsigned
          17929431) ++ (32 ∷ [])) ++ spelled spell.Signed 2000000010) ++ (32 ∷ [])) ++ spelled spell.Signed 2000000011);
      reads =
          0;
      writes = 0;
      bytes = (37 ∷ 100 ∷ 32 ∷ 37 ∷ 100 ∷ 32 ∷ 37 ∷ 100 ∷ 32 ∷ 37 ∷ 100 ∷ 32 ∷ 37 ∷ 100 ∷ 32 ∷ 0 ∷ 37 ∷ 117 ∷
          32 ∷ 37 ∷ 117 ∷ 32 ∷ 37 ∷ 100 ∷ 32 ∷ 37 ∷ 100 ∷ 32 ∷ 37 ∷ 100 ∷ 32 ∷ 0 ∷ 37 ∷ 100 ∷ 32 ∷ 37 ∷ 100 ∷ 32 ∷ 37 ∷ 117 ∷ 32
          ∷ 37 ∷ 100 ∷ 32 ∷ 37 ∷ 100 ∷ []);
      rest_is_zero = true;
    }
unfolding compared misplaced combined spelled most_bytes
operators_runs = refl

operators_reads : (nat_eq (wanted_reads operators (among ([] ∷ [])) 0) 0 && true) ≡ true
operators_reads = refl

operators_tests : (nat_eq (open_tests operators (among ([] ∷ [])) 0) 0 && true) ≡ true
operators_tests = refl

-- int c(int a,int b,unsigned u,unsigned v){return (a<b)+2*(a>b)+4*(a<=b)+8*(a>=b)+16*(a==b)+32*(a!=b)+64*(u<v)+128*(u>v)+256*(u<=v)+512*(u>=v);}
-- int main(void){return c(-1,1,-1,1)*10000+c(3,3,3,3)*100+c(2,-2,2,-2);}
abbrev comparisons : Program
comparisons = record { limit = 100; function = function } where
  addresses : ℕ → ℕ
  addresses k = slice_index [] k

  f0 : Function
  f0 = record {
    address = addresses;
    callee = λ g. g;
    parameters = (None ∷ None ∷ None ∷ None ∷ []);
    frame = 0;
    body = (tree.Return here (Some (tree.Binary here op.Add (tree.Binary here op.Add (tree.Binary here op.Add (tree.Binary
        here op.Add (tree.Binary here op.Add (tree.Binary here op.Add (tree.Binary here op.Add (tree.Binary here op.Add
        (tree.Binary here op.Add (tree.Compare here rel.LessSigned false (tree.Variable here 1) (tree.Variable here 2))
        (tree.Binary here op.Multiply (tree.Number 2) (tree.Compare here rel.LessSigned true (tree.Variable here 1)
        (tree.Variable here 2)))) (tree.Binary here op.Multiply (tree.Number 4) (tree.Compare here rel.AtLeastSigned true
        (tree.Variable here 1) (tree.Variable here 2)))) (tree.Binary here op.Multiply (tree.Number 8) (tree.Compare here
        rel.AtLeastSigned false (tree.Variable here 1) (tree.Variable here 2)))) (tree.Binary here op.Multiply
        (tree.Number 16) (tree.Compare here rel.Equal false (tree.Variable here 1) (tree.Variable here 2)))) (tree.Binary
        here op.Multiply (tree.Number 32) (tree.Compare here rel.NotEqual false (tree.Variable here 1) (tree.Variable here
        2)))) (tree.Binary here op.Multiply (tree.Number 64) (tree.Compare here rel.LessUnsigned false (tree.Variable here
        3) (tree.Variable here 4)))) (tree.Binary here op.Multiply (tree.Number 128) (tree.Compare here rel.LessUnsigned
        true (tree.Variable here 3) (tree.Variable here 4)))) (tree.Binary here op.Multiply (tree.Number 256)
        (tree.Compare here rel.AtLeastUnsigned true (tree.Variable here 3) (tree.Variable here 4)))) (tree.Binary here
        op.Multiply (tree.Number 512) (tree.Compare here rel.AtLeastUnsigned false (tree.Variable here 3) (tree.Variable
        here 4))))) tree.Done);
  }

  f1 : Function
  f1 = record {
    address = addresses;
    callee = λ g. g;
    parameters = [];
    frame = 0;
    body = (tree.Evaluate here (tree.Exit here (tree.Binary here op.Add (tree.Binary here op.Add (tree.Binary here
        op.Multiply (tree.Call here 0 (tree.expression_then (tree.Number 4294967295) (tree.expression_then (tree.Number 1)
        (tree.expression_then (tree.Number 4294967295) (tree.expression_then (tree.Number 1) tree.no_expressions)))))
        (tree.Number 10000)) (tree.Binary here op.Multiply (tree.Call here 0 (tree.expression_then (tree.Number 3)
        (tree.expression_then (tree.Number 3) (tree.expression_then (tree.Number 3) (tree.expression_then (tree.Number 3)
        tree.no_expressions))))) (tree.Number 100))) (tree.Call here 0 (tree.expression_then (tree.Number 2)
        (tree.expression_then (tree.Number 4294967294) (tree.expression_then (tree.Number 2) (tree.expression_then
        (tree.Number 4294967294) tree.no_expressions))))))) tree.Done);
  }

  function : ℕ → Function
  function f = (if nat_eq f 0 then f0 else f1)

comparisons_lawful : (is_lawful_body 128 5 (slice_get (4 ∷ 0 ∷ [])) true (let p = comparisons in p.function 0) && (is_lawful_body 128 1 (slice_get (4 ∷ 0 ∷ [])) false (let p = comparisons in p.function 1) && true)) ≡ true
comparisons_lawful = refl

abbrev comparisons_data : List ℕ
comparisons_data = []

comparisons_runs :
    seen 0 (run comparisons 100000 1 (start 128 16 comparisons_data)) ≡
    record { end = Halted 6849962; printed = []; reads = 0; writes = 0; bytes = []; rest_is_zero = true }
unfolding compared misplaced combined spelled most_bytes
comparisons_runs = refl

comparisons_works : nat_le (work_of (run comparisons 100000 1 (start 128 16 comparisons_data))) 651 ≡ true
unfolding compared misplaced combined spelled most_bytes
comparisons_works = refl

comparisons_reads : (nat_eq (wanted_reads comparisons (among ([] ∷ [] ∷ [])) 0) 0 && (nat_eq (wanted_reads comparisons (among ([] ∷ [] ∷
    [])) 1) 0 && true)) ≡ true
comparisons_reads = refl

comparisons_tests : (nat_eq (open_tests comparisons (among ([] ∷ [] ∷ [])) 0) 0 && (nat_eq (open_tests comparisons (among ([] ∷ [] ∷ []))
    1) 0 && true)) ≡ true
comparisons_tests = refl

-- #include <stdio.h>
-- int main(void){int x=-32641;unsigned char a=x;signed char b=x;unsigned short c=x;short d=x;printf("%d %d %d %d ",a,b,c,d);printf("%d %d %d",(signed char)200+(unsigned char)-1,(short)40000,(unsigned short)-2);return 0;}
abbrev conversions : Program
conversions = record { limit = 100; function = function } where
  addresses : ℕ → ℕ
  addresses k = slice_index (16 ∷ 29 ∷ []) k

  f0 : Function
  f0 = record {
    address = addresses;
    callee = λ g. g;
    parameters = [];
    frame = 0;
    body = (tree.Evaluate here (tree.Assign here kind.I32 (tree.InVariable 1) (tree.Number 4294934655)) (tree.Evaluate here
        (tree.Assign here kind.U8 (tree.InVariable 2) (tree.Convert here kind.U8 (tree.Variable here 1))) (tree.Evaluate
        here (tree.Assign here kind.I8 (tree.InVariable 3) (tree.Convert here kind.I8 (tree.Variable here 1)))
        (tree.Evaluate here (tree.Assign here kind.U16 (tree.InVariable 4) (tree.Convert here kind.U16 (tree.Variable here
        1))) (tree.Evaluate here (tree.Assign here kind.I16 (tree.InVariable 5) (tree.Convert here kind.I16 (tree.Variable
        here 1))) (tree.Print here (tree.expression_then (tree.Variable here 2) (tree.expression_then (tree.Variable here
        3) (tree.expression_then (tree.Variable here 4) (tree.expression_then (tree.Variable here 5)
        tree.no_expressions)))) (piece.Word spell.Signed 0 ∷ piece.Byte 32 ∷ piece.Word spell.Signed 1 ∷ piece.Byte 32 ∷
        piece.Word spell.Signed 2 ∷ piece.Byte 32 ∷ piece.Word spell.Signed 3 ∷ piece.Byte 32 ∷ []) (tree.Print here
        (tree.expression_then (tree.Number 199) (tree.expression_then (tree.Number 4294941760) (tree.expression_then
        (tree.Number 65534) tree.no_expressions))) (piece.Word spell.Signed 0 ∷ piece.Byte 32 ∷ piece.Word spell.Signed 1
        ∷ piece.Byte 32 ∷ piece.Word spell.Signed 2 ∷ []) (tree.Evaluate here (tree.Exit here (tree.Number 0))
        tree.Done))))))));
  }

  function : ℕ → Function
  function f = f0

conversions_lawful : (is_lawful_body 128 6 (slice_get (0 ∷ [])) false (let p = conversions in p.function 0) && true) ≡ true
conversions_lawful = refl

abbrev conversions_data : List ℕ
conversions_data = (37 ∷ 100 ∷ 32 ∷ 37 ∷ 100 ∷ 32 ∷ 37 ∷ 100 ∷ 32 ∷ 37 ∷ 100 ∷ 32 ∷ 0 ∷ 37 ∷ 100 ∷ 32 ∷ 37 ∷ 100 ∷ 32 ∷ 37 ∷ 100 ∷ 0 ∷
    [])

conversions_runs :
    seen 21 (run conversions 100000 0 (start 128 40 conversions_data)) ≡
    record {
      end = Halted 0;
      printed = ((((((((((((([] ++ spelled spell.Signed 127) ++ (32 ∷ [])) ++ spelled spell.Signed
          127) ++ (32 ∷ [])) ++ spelled spell.Signed 32895) ++ (32 ∷ [])) ++ spelled spell.Signed 4294934655) ++ (32 ∷ [])) ++
          spelled spell.Signed 199) ++ (32 ∷ [])) ++ spelled spell.Signed 4294941760) ++ (32 ∷ [])) ++ spelled spell.Signed
          65534);
      reads = 0;
      writes = 0;
      bytes = (37 ∷ 100 ∷ 32 ∷ 37 ∷ 100 ∷ 32 ∷ 37 ∷ 100 ∷ 32 ∷ 37 ∷ 100 ∷ 32 ∷ 0 ∷ 37 ∷ 100 ∷
          32 ∷ 37 ∷ 100 ∷ 32 ∷ 37 ∷ 100 ∷ []);
      rest_is_zero = true;
    }
unfolding compared misplaced combined spelled most_bytes
conversions_runs = refl

conversions_reads : (nat_eq (wanted_reads conversions (among ([] ∷ [])) 0) 0 && true) ≡ true
conversions_reads = refl

conversions_tests : (nat_eq (open_tests conversions (among ([] ∷ [])) 0) 0 && true) ≡ true
conversions_tests = refl

-- #include <stdio.h>
-- int main(void){char c;c=255;printf("%d %u\n",c+1,0u-1);return 0;}
abbrev char_wraps : Program
char_wraps = record { limit = 100; function = function } where
  addresses : ℕ → ℕ
  addresses k = slice_index (16 ∷ []) k

  f0 : Function
  f0 = record {
    address = addresses;
    callee = λ g. g;
    parameters = [];
    frame = 0;
    body = (tree.Evaluate here (tree.Assign here kind.U8 (tree.InVariable 1) (tree.Number 0)) (tree.Evaluate here
        (tree.Assign here kind.U8 (tree.InVariable 1) (tree.Number 255)) (tree.Print here (tree.expression_then
        (tree.Binary here op.Add (tree.Variable here 1) (tree.Number 1)) (tree.expression_then (tree.Number 4294967295)
        tree.no_expressions)) (piece.Word spell.Signed 0 ∷ piece.Byte 32 ∷ piece.Word spell.Unsigned 1 ∷ piece.Byte 10 ∷
        []) (tree.Evaluate here (tree.Exit here (tree.Number 0)) tree.Done))));
  }

  function : ℕ → Function
  function f = f0

char_wraps_lawful : (is_lawful_body 128 2 (slice_get (0 ∷ [])) false (let p = char_wraps in p.function 0) && true) ≡ true
char_wraps_lawful = refl

abbrev char_wraps_data : List ℕ
char_wraps_data = (37 ∷ 100 ∷ 32 ∷ 37 ∷ 117 ∷ 10 ∷ 0 ∷ [])

char_wraps_runs :
    seen 6 (run char_wraps 100000 0 (start 128 24 char_wraps_data)) ≡
    record {
      end = Halted 0;
      printed = (((([] ++ spelled spell.Signed 256) ++ (32 ∷ [])) ++ spelled spell.Unsigned
          4294967295) ++ (10 ∷ []));
      reads = 0;
      writes = 0;
      bytes = (37 ∷ 100 ∷ 32 ∷ 37 ∷ 117 ∷ 10 ∷ []);
      rest_is_zero = true;
    }
unfolding compared misplaced combined spelled most_bytes
char_wraps_runs = refl

char_wraps_reads : (nat_eq (wanted_reads char_wraps (among ([] ∷ [])) 0) 0 && true) ≡ true
char_wraps_reads = refl

char_wraps_tests : (nat_eq (open_tests char_wraps (among ([] ∷ [])) 0) 0 && true) ≡ true
char_wraps_tests = refl

-- int n;int t(int x){n++;return x;}int main(void){int a=t(0)&&t(1);int b=t(2)||t(3);int c=!t(5)?t(1):t(0)?4:6;return a*1000+b*100+c*10+n+((t(1),t(7))==7)+!(n>3||t(0));}
abbrev logic : Program
logic = record { limit = 100; function = function } where
  addresses : ℕ → ℕ
  addresses k = slice_index (16 ∷ []) k

  f0 : Function
  f0 = record {
    address = addresses;
    callee = λ g. g;
    parameters = (None ∷ []);
    frame = 0;
    body = (tree.Evaluate here (tree.Step here kind.I32 (tree.AtAddress false (tree.Address 0 0)) 1 false) (tree.Return here
        (Some (tree.Variable here 1)) tree.Done));
  }

  f1 : Function
  f1 = record {
    address = addresses;
    callee = λ g. g;
    parameters = [];
    frame = 0;
    body = (tree.Evaluate here (tree.Assign here kind.I32 (tree.InVariable 1) (tree.And here (tree.Call here 0
        (tree.expression_then (tree.Number 0) tree.no_expressions)) (tree.Call here 0 (tree.expression_then (tree.Number
        1) tree.no_expressions)))) (tree.Evaluate here (tree.Assign here kind.I32 (tree.InVariable 2) (tree.Or here
        (tree.Call here 0 (tree.expression_then (tree.Number 2) tree.no_expressions)) (tree.Call here 0
        (tree.expression_then (tree.Number 3) tree.no_expressions)))) (tree.Evaluate here (tree.Assign here kind.I32
        (tree.InVariable 3) (tree.Conditional here (tree.Not here (tree.Call here 0 (tree.expression_then (tree.Number 5)
        tree.no_expressions))) (tree.Call here 0 (tree.expression_then (tree.Number 1) tree.no_expressions))
        (tree.Conditional here (tree.Call here 0 (tree.expression_then (tree.Number 0) tree.no_expressions)) (tree.Number
        4) (tree.Number 6)))) (tree.Evaluate here (tree.Exit here (tree.Binary here op.Add (tree.Binary here op.Add
        (tree.Binary here op.Add (tree.Binary here op.Add (tree.Binary here op.Add (tree.Binary here op.Multiply
        (tree.Variable here 1) (tree.Number 1000)) (tree.Binary here op.Multiply (tree.Variable here 2) (tree.Number
        100))) (tree.Binary here op.Multiply (tree.Variable here 3) (tree.Number 10))) (tree.Read here kind.I32 false
        (tree.Address 0 0))) (tree.Compare here rel.Equal false (tree.Comma (tree.Call here 0 (tree.expression_then
        (tree.Number 1) tree.no_expressions)) (tree.Call here 0 (tree.expression_then (tree.Number 7)
        tree.no_expressions))) (tree.Number 7))) (tree.Not here (tree.Or here (tree.Compare here rel.LessSigned true
        (tree.Read here kind.I32 false (tree.Address 0 0)) (tree.Number 3)) (tree.Call here 0 (tree.expression_then
        (tree.Number 0) tree.no_expressions)))))) tree.Done))));
  }

  function : ℕ → Function
  function f = (if nat_eq f 0 then f0 else f1)

logic_lawful : (is_lawful_body 128 2 (slice_get (1 ∷ 0 ∷ [])) true (let p = logic in p.function 0) && (is_lawful_body 128 4 (slice_get (1 ∷ 0 ∷ [])) false (let p = logic in p.function 1) && true)) ≡ true
logic_lawful = refl

abbrev logic_data : List ℕ
logic_data = (0 ∷ 0 ∷ 0 ∷ 0 ∷ [])

logic_runs :
    seen 1 (run logic 100000 1 (start 128 20 logic_data)) ≡
    record { end = Halted 165; printed = []; reads = 8; writes = 6; bytes = (6 ∷ []); rest_is_zero = true }
unfolding compared misplaced combined spelled most_bytes
logic_runs = refl

logic_works : nat_le (work_of (run logic 100000 1 (start 128 20 logic_data))) 267 ≡ true
unfolding compared misplaced combined spelled most_bytes
logic_works = refl

logic_reads : (nat_eq (wanted_reads logic (among ([] ∷ [] ∷ [])) 0) 0 && (nat_eq (wanted_reads logic (among ([] ∷ [] ∷ [])) 1) 0 &&
    true)) ≡ true
logic_reads = refl

logic_tests : (nat_eq (open_tests logic (among ([] ∷ [] ∷ [])) 0) 0 && (nat_eq (open_tests logic (among ([] ∷ [] ∷ [])) 1) 0 &&
    true)) ≡ true
logic_tests = refl

-- int main(void){int a=5;int*p=&a;return (a&&2)+(0||p)*10+!a*100+(!0)*1000+(a&&0||a)*10000;}
abbrev logical_values : Program
logical_values = record { limit = 100; function = function } where
  addresses : ℕ → ℕ
  addresses k = slice_index [] k

  f0 : Function
  f0 = record {
    address = addresses;
    callee = λ g. g;
    parameters = [];
    frame = 4;
    body = (tree.Evaluate here (tree.Assign here kind.I32 (tree.AtAddress false (tree.Frame here 0)) (tree.Number 5))
        (tree.Evaluate here (tree.Assign here kind.I32 (tree.InVariable 1) (tree.Frame here 0)) (tree.Evaluate here
        (tree.Exit here (tree.Binary here op.Add (tree.Binary here op.Add (tree.Binary here op.Add (tree.Binary here
        op.Add (tree.And here (tree.Read here kind.I32 false (tree.Frame here 0)) (tree.Number 2)) (tree.Binary here
        op.Multiply (tree.Or here (tree.Number 0) (tree.Variable here 1)) (tree.Number 10))) (tree.Binary here op.Multiply
        (tree.Not here (tree.Read here kind.I32 false (tree.Frame here 0))) (tree.Number 100))) (tree.Number 1000))
        (tree.Binary here op.Multiply (tree.Or here (tree.And here (tree.Read here kind.I32 false (tree.Frame here 0))
        (tree.Number 0)) (tree.Read here kind.I32 false (tree.Frame here 0))) (tree.Number 10000)))) tree.Done)));
  }

  function : ℕ → Function
  function f = f0

logical_values_lawful : (is_lawful_body 128 2 (slice_get (0 ∷ [])) false (let p = logical_values in p.function 0) && true) ≡ true
logical_values_lawful = refl

abbrev logical_values_data : List ℕ
logical_values_data = []

logical_values_runs :
    seen 1 (run logical_values 100000 0 (start 128 16 logical_values_data)) ≡
    record { end = Halted 11011; printed = []; reads = 4; writes = 1; bytes = (5 ∷ []); rest_is_zero = true }
unfolding compared misplaced combined spelled most_bytes
logical_values_runs = refl

logical_values_works : nat_le (work_of (run logical_values 100000 0 (start 128 16 logical_values_data))) 105 ≡ true
unfolding compared misplaced combined spelled most_bytes
logical_values_works = refl

logical_values_reads : (nat_eq (wanted_reads logical_values (among ([] ∷ [])) 0) 0 && true) ≡ true
logical_values_reads = refl

logical_values_tests : (nat_eq (open_tests logical_values (among ([] ∷ [])) 0) 3 && true) ≡ true
logical_values_tests = refl

-- #include <stdio.h>
-- int n;int t(int x){n=n*10+x;return x;}int main(void){int r=0;if(t(0)||t(2)&&!t(0))r=1;if(!(t(1)&&t(0)))r+=2;if(t(3)?t(0):t(4))r+=4;if((t(0),t(5)))r+=8;printf("%d %d",r,n);return 0;}
abbrev conditions : Program
conditions = record { limit = 100; function = function } where
  addresses : ℕ → ℕ
  addresses k = slice_index (16 ∷ 20 ∷ []) k

  f0 : Function
  f0 = record {
    address = addresses;
    callee = λ g. g;
    parameters = (None ∷ []);
    frame = 0;
    body = (tree.Evaluate here (tree.Assign here kind.I32 (tree.AtAddress false (tree.Address 0 0)) (tree.Binary here op.Add
        (tree.Binary here op.Multiply (tree.Read here kind.I32 false (tree.Address 0 0)) (tree.Number 10)) (tree.Variable
        here 1))) (tree.Return here (Some (tree.Variable here 1)) tree.Done));
  }

  f1 : Function
  f1 = record {
    address = addresses;
    callee = λ g. g;
    parameters = [];
    frame = 0;
    body = (tree.Evaluate here (tree.Assign here kind.I32 (tree.InVariable 1) (tree.Number 0)) (tree.If here (tree.Or here
        (tree.Call here 0 (tree.expression_then (tree.Number 0) tree.no_expressions)) (tree.And here (tree.Call here 0
        (tree.expression_then (tree.Number 2) tree.no_expressions)) (tree.Not here (tree.Call here 0 (tree.expression_then
        (tree.Number 0) tree.no_expressions))))) (tree.Evaluate here (tree.Assign here kind.I32 (tree.InVariable 1)
        (tree.Number 1)) tree.Done) tree.Done (tree.If here (tree.Not here (tree.And here (tree.Call here 0
        (tree.expression_then (tree.Number 1) tree.no_expressions)) (tree.Call here 0 (tree.expression_then (tree.Number
        0) tree.no_expressions)))) (tree.Evaluate here (tree.Update here kind.I32 (tree.InVariable 1) op.Add (tree.Number
        2)) tree.Done) tree.Done (tree.If here (tree.Conditional here (tree.Call here 0 (tree.expression_then (tree.Number
        3) tree.no_expressions)) (tree.Call here 0 (tree.expression_then (tree.Number 0) tree.no_expressions)) (tree.Call
        here 0 (tree.expression_then (tree.Number 4) tree.no_expressions))) (tree.Evaluate here (tree.Update here kind.I32
        (tree.InVariable 1) op.Add (tree.Number 4)) tree.Done) tree.Done (tree.If here (tree.Comma (tree.Call here 0
        (tree.expression_then (tree.Number 0) tree.no_expressions)) (tree.Call here 0 (tree.expression_then (tree.Number
        5) tree.no_expressions))) (tree.Evaluate here (tree.Update here kind.I32 (tree.InVariable 1) op.Add (tree.Number
        8)) tree.Done) tree.Done (tree.Print here (tree.expression_then (tree.Variable here 1) (tree.expression_then
        (tree.Read here kind.I32 false (tree.Address 0 0)) tree.no_expressions)) (piece.Word spell.Signed 0 ∷ piece.Byte
        32 ∷ piece.Word spell.Signed 1 ∷ []) (tree.Evaluate here (tree.Exit here (tree.Number 0)) tree.Done)))))));
  }

  function : ℕ → Function
  function f = (if nat_eq f 0 then f0 else f1)

conditions_lawful : (is_lawful_body 128 2 (slice_get (1 ∷ 0 ∷ [])) true (let p = conditions in p.function 0) && (is_lawful_body 128 2 (slice_get (1 ∷ 0 ∷ [])) false (let p = conditions in p.function 1) && true)) ≡ true
conditions_lawful = refl

abbrev conditions_data : List ℕ
conditions_data = (0 ∷ 0 ∷ 0 ∷ 0 ∷ 37 ∷ 100 ∷ 32 ∷ 37 ∷ 100 ∷ 0 ∷ [])

conditions_runs :
    seen 9 (run conditions 100000 1 (start 128 28 conditions_data)) ≡
    record {
      end = Halted 0;
      printed = ((([] ++ spelled spell.Signed 11) ++ (32 ∷ [])) ++ spelled spell.Signed 20103005);
      reads = 10;
      writes = 9;
      bytes = (93 ∷ 191 ∷ 50 ∷ 1 ∷ 37 ∷ 100 ∷ 32 ∷ 37 ∷ 100 ∷ []);
      rest_is_zero = true;
    }
unfolding compared misplaced combined spelled most_bytes
conditions_runs = refl

conditions_reads : (nat_eq (wanted_reads conditions (among ([] ∷ [] ∷ [])) 0) 0 && (nat_eq (wanted_reads conditions (among ([] ∷ [] ∷
    [])) 1) 0 && true)) ≡ true
conditions_reads = refl

conditions_tests : (nat_eq (open_tests conditions (among ([] ∷ [] ∷ [])) 0) 0 && true) ≡ true
conditions_tests = refl

-- int g=1;int f(int x){g=g*10+x;return x;}int main(void){int a[3];a[f(0)]=f(1)+f(2)*f(3);return g==10123&&a[0]==7&&f(5)+(g=3)==8&&g==3;}
abbrev order : Program
order = record { limit = 100; function = function } where
  addresses : ℕ → ℕ
  addresses k = slice_index (16 ∷ []) k

  f0 : Function
  f0 = record {
    address = addresses;
    callee = λ g. g;
    parameters = (None ∷ []);
    frame = 0;
    body = (tree.Evaluate here (tree.Assign here kind.I32 (tree.AtAddress false (tree.Address 0 0)) (tree.Binary here op.Add
        (tree.Binary here op.Multiply (tree.Read here kind.I32 false (tree.Address 0 0)) (tree.Number 10)) (tree.Variable
        here 1))) (tree.Return here (Some (tree.Variable here 1)) tree.Done));
  }

  f1 : Function
  f1 = record {
    address = addresses;
    callee = λ g. g;
    parameters = [];
    frame = 12;
    body = (tree.Evaluate here (tree.Assign here kind.I32 (tree.AtAddress true (tree.Binary here op.Add (tree.Frame here 0)
        (tree.Binary here op.Multiply (tree.Call here 0 (tree.expression_then (tree.Number 0) tree.no_expressions))
        (tree.Number 4)))) (tree.Binary here op.Add (tree.Call here 0 (tree.expression_then (tree.Number 1)
        tree.no_expressions)) (tree.Binary here op.Multiply (tree.Call here 0 (tree.expression_then (tree.Number 2)
        tree.no_expressions)) (tree.Call here 0 (tree.expression_then (tree.Number 3) tree.no_expressions)))))
        (tree.Evaluate here (tree.Exit here (tree.And here (tree.And here (tree.And here (tree.Compare here rel.Equal
        false (tree.Read here kind.I32 false (tree.Address 0 0)) (tree.Number 10123)) (tree.Compare here rel.Equal false
        (tree.Read here kind.I32 true (tree.Frame here 0)) (tree.Number 7))) (tree.Compare here rel.Equal false
        (tree.Binary here op.Add (tree.Call here 0 (tree.expression_then (tree.Number 5) tree.no_expressions))
        (tree.Assign here kind.I32 (tree.AtAddress false (tree.Address 0 0)) (tree.Number 3))) (tree.Number 8)))
        (tree.Compare here rel.Equal false (tree.Read here kind.I32 false (tree.Address 0 0)) (tree.Number 3))))
        tree.Done));
  }

  function : ℕ → Function
  function f = (if nat_eq f 0 then f0 else f1)

order_lawful : (is_lawful_body 128 2 (slice_get (1 ∷ 0 ∷ [])) true (let p = order in p.function 0) && (is_lawful_body 128 1 (slice_get (1 ∷ 0 ∷ [])) false (let p = order in p.function 1) && true)) ≡ true
order_lawful = refl

abbrev order_data : List ℕ
order_data = (1 ∷ 0 ∷ 0 ∷ 0 ∷ [])

order_runs :
    seen 5 (run order 100000 1 (start 128 20 order_data)) ≡
    record { end = Halted 1; printed = []; reads = 8; writes = 7; bytes = (3 ∷ 0 ∷ 0 ∷ 0 ∷ 7 ∷ []); rest_is_zero = true }
unfolding compared misplaced combined spelled most_bytes
order_runs = refl

order_works : nat_le (work_of (run order 100000 1 (start 128 20 order_data))) 297 ≡ true
unfolding compared misplaced combined spelled most_bytes
order_works = refl

order_reads : (nat_eq (wanted_reads order (among ((0 ∷ 1 ∷ []) ∷ [] ∷ [])) 0) 0 && (nat_eq (wanted_reads order (among ((0 ∷ 1 ∷ [])
    ∷ [] ∷ [])) 1) 0 && true)) ≡ true
order_reads = refl

order_tests : (nat_eq (open_tests order (among ((0 ∷ 1 ∷ []) ∷ [] ∷ [])) 0) 0 && true) ≡ true
order_tests = refl

-- #include <stdio.h>
-- int a[2];int f(int x){putchar(48+x);return x;}int main(void){int r=f(1)-f(2)*f(3);r+=(f(4)<f(5))+(f(6)==f(6));a[f(0)]=f(7)+a[f(1)];return r+(f(8),f(9));}
abbrev left_before_right : Program
left_before_right = record { limit = 100; function = function } where
  addresses : ℕ → ℕ
  addresses k = slice_index (16 ∷ []) k

  f0 : Function
  f0 = record {
    address = addresses;
    callee = λ g. g;
    parameters = (None ∷ []);
    frame = 0;
    body = (tree.Evaluate here (tree.Putchar here (tree.Binary here op.Add (tree.Number 48) (tree.Variable here 1)))
        (tree.Return here (Some (tree.Variable here 1)) tree.Done));
  }

  f1 : Function
  f1 = record {
    address = addresses;
    callee = λ g. g;
    parameters = [];
    frame = 0;
    body = (tree.Evaluate here (tree.Assign here kind.I32 (tree.InVariable 1) (tree.Binary here op.Subtract (tree.Call here 0
        (tree.expression_then (tree.Number 1) tree.no_expressions)) (tree.Binary here op.Multiply (tree.Call here 0
        (tree.expression_then (tree.Number 2) tree.no_expressions)) (tree.Call here 0 (tree.expression_then (tree.Number
        3) tree.no_expressions))))) (tree.Evaluate here (tree.Update here kind.I32 (tree.InVariable 1) op.Add (tree.Binary
        here op.Add (tree.Compare here rel.LessSigned false (tree.Call here 0 (tree.expression_then (tree.Number 4)
        tree.no_expressions)) (tree.Call here 0 (tree.expression_then (tree.Number 5) tree.no_expressions))) (tree.Compare
        here rel.Equal false (tree.Call here 0 (tree.expression_then (tree.Number 6) tree.no_expressions)) (tree.Call here
        0 (tree.expression_then (tree.Number 6) tree.no_expressions))))) (tree.Evaluate here (tree.Assign here kind.I32
        (tree.AtAddress true (tree.Binary here op.Add (tree.Address 0 0) (tree.Binary here op.Multiply (tree.Call here 0
        (tree.expression_then (tree.Number 0) tree.no_expressions)) (tree.Number 4)))) (tree.Binary here op.Add (tree.Call
        here 0 (tree.expression_then (tree.Number 7) tree.no_expressions)) (tree.Read here kind.I32 true (tree.Binary here
        op.Add (tree.Address 0 0) (tree.Binary here op.Multiply (tree.Call here 0 (tree.expression_then (tree.Number 1)
        tree.no_expressions)) (tree.Number 4)))))) (tree.Evaluate here (tree.Exit here (tree.Binary here op.Add
        (tree.Variable here 1) (tree.Comma (tree.Call here 0 (tree.expression_then (tree.Number 8) tree.no_expressions))
        (tree.Call here 0 (tree.expression_then (tree.Number 9) tree.no_expressions))))) tree.Done))));
  }

  function : ℕ → Function
  function f = (if nat_eq f 0 then f0 else f1)

left_before_right_lawful : (is_lawful_body 128 2 (slice_get (1 ∷ 0 ∷ [])) true (let p = left_before_right in p.function 0) && (is_lawful_body 128 2 (slice_get (1 ∷ 0 ∷ [])) false (let p = left_before_right in p.function 1) && true)) ≡ true
left_before_right_lawful = refl

abbrev left_before_right_data : List ℕ
left_before_right_data = (0 ∷ 0 ∷ 0 ∷ 0 ∷ 0 ∷ 0 ∷ 0 ∷ 0 ∷ [])

left_before_right_runs :
    seen 1 (run left_before_right 100000 1 (start 128 24 left_before_right_data)) ≡
    record {
      end = Halted 6;
      printed = (((((((((((([] ++ spelled spell.Byte 49) ++ spelled spell.Byte 50) ++ spelled
          spell.Byte 51) ++ spelled spell.Byte 52) ++ spelled spell.Byte 53) ++ spelled spell.Byte 54) ++ spelled spell.Byte 54)
          ++ spelled spell.Byte 48) ++ spelled spell.Byte 55) ++ spelled spell.Byte 49) ++ spelled spell.Byte 56) ++ spelled
          spell.Byte 57);
      reads = 1;
      writes = 1;
      bytes = (7 ∷ []);
      rest_is_zero = true;
    }
unfolding compared misplaced combined spelled most_bytes
left_before_right_runs = refl

left_before_right_works : nat_le (work_of (run left_before_right 100000 1 (start 128 24 left_before_right_data))) 534 ≡ true
unfolding compared misplaced combined spelled most_bytes
left_before_right_works = refl

left_before_right_reads : (nat_eq (wanted_reads left_before_right (among ((0 ∷ 1 ∷ []) ∷ [] ∷ [])) 0) 0 && (nat_eq (wanted_reads
    left_before_right (among ((0 ∷ 1 ∷ []) ∷ [] ∷ [])) 1) 0 && true)) ≡ true
left_before_right_reads = refl

left_before_right_tests : (nat_eq (open_tests left_before_right (among ((0 ∷ 1 ∷ []) ∷ [] ∷ [])) 0) 0 && (nat_eq (open_tests left_before_right
    (among ((0 ∷ 1 ∷ []) ∷ [] ∷ [])) 1) 0 && true)) ≡ true
left_before_right_tests = refl

-- #include <stdio.h>
-- char c=255;int g=5;int main(void){signed char s=127;int i=3;int*p=&g;printf("%d %d %d %d ",c++,c,++c,c--);printf("%d %d %d ",s++,s,--i);printf("%d %d %d",(*p)--,++*p,i++ +i);return 0;}
abbrev steps : Program
steps = record { limit = 100; function = function } where
  addresses : ℕ → ℕ
  addresses k = slice_index (16 ∷ 20 ∷ 24 ∷ 37 ∷ 47 ∷ []) k

  f0 : Function
  f0 = record {
    address = addresses;
    callee = λ g. g;
    parameters = [];
    frame = 0;
    body = (tree.Evaluate here (tree.Assign here kind.I8 (tree.InVariable 1) (tree.Number 127)) (tree.Evaluate here
        (tree.Assign here kind.I32 (tree.InVariable 2) (tree.Number 3)) (tree.Evaluate here (tree.Assign here kind.I32
        (tree.InVariable 3) (tree.Address 1 0)) (tree.Print here (tree.expression_then (tree.Step here kind.U8
        (tree.AtAddress false (tree.Address 0 0)) 1 false) (tree.expression_then (tree.Read here kind.U8 false
        (tree.Address 0 0)) (tree.expression_then (tree.Step here kind.U8 (tree.AtAddress false (tree.Address 0 0)) 1
        true) (tree.expression_then (tree.Step here kind.U8 (tree.AtAddress false (tree.Address 0 0)) 4294967295 false)
        tree.no_expressions)))) (piece.Word spell.Signed 0 ∷ piece.Byte 32 ∷ piece.Word spell.Signed 1 ∷ piece.Byte 32 ∷
        piece.Word spell.Signed 2 ∷ piece.Byte 32 ∷ piece.Word spell.Signed 3 ∷ piece.Byte 32 ∷ []) (tree.Print here
        (tree.expression_then (tree.Step here kind.I8 (tree.InVariable 1) 1 false) (tree.expression_then (tree.Variable
        here 1) (tree.expression_then (tree.Step here kind.I32 (tree.InVariable 2) 4294967295 true) tree.no_expressions)))
        (piece.Word spell.Signed 0 ∷ piece.Byte 32 ∷ piece.Word spell.Signed 1 ∷ piece.Byte 32 ∷ piece.Word spell.Signed 2
        ∷ piece.Byte 32 ∷ []) (tree.Print here (tree.expression_then (tree.Step here kind.I32 (tree.AtAddress true
        (tree.Variable here 3)) 4294967295 false) (tree.expression_then (tree.Step here kind.I32 (tree.AtAddress true
        (tree.Variable here 3)) 1 true) (tree.expression_then (tree.Binary here op.Add (tree.Step here kind.I32
        (tree.InVariable 2) 1 false) (tree.Variable here 2)) tree.no_expressions))) (piece.Word spell.Signed 0 ∷
        piece.Byte 32 ∷ piece.Word spell.Signed 1 ∷ piece.Byte 32 ∷ piece.Word spell.Signed 2 ∷ []) (tree.Evaluate here
        (tree.Exit here (tree.Number 0)) tree.Done)))))));
  }

  function : ℕ → Function
  function f = f0

steps_lawful : (is_lawful_body 128 4 (slice_get (0 ∷ [])) false (let p = steps in p.function 0) && true) ≡ true
steps_lawful = refl

abbrev steps_data : List ℕ
steps_data = (255 ∷ 0 ∷ 0 ∷ 0 ∷ 5 ∷ 0 ∷ 0 ∷ 0 ∷ 37 ∷ 100 ∷ 32 ∷ 37 ∷ 100 ∷ 32 ∷ 37 ∷ 100 ∷ 32 ∷ 37 ∷ 100 ∷ 32 ∷ 0 ∷ 37 ∷ 100 ∷ 32 ∷
    37 ∷ 100 ∷ 32 ∷ 37 ∷ 100 ∷ 32 ∷ 0 ∷ 37 ∷ 100 ∷ 32 ∷ 37 ∷ 100 ∷ 32 ∷ 37 ∷ 100 ∷ 0 ∷ [])

steps_runs :
    seen 39 (run steps 100000 0 (start 128 56 steps_data)) ≡
    record {
      end = Halted 0;
      printed = ((((((((((((((((((([] ++ spelled spell.Signed 255) ++ (32 ∷ [])) ++ spelled
          spell.Signed 0) ++ (32 ∷ [])) ++ spelled spell.Signed 1) ++ (32 ∷ [])) ++ spelled spell.Signed 1) ++ (32 ∷ [])) ++
          spelled spell.Signed 127) ++ (32 ∷ [])) ++ spelled spell.Signed 4294967168) ++ (32 ∷ [])) ++ spelled spell.Signed 2)
          ++ (32 ∷ [])) ++ spelled spell.Signed 5) ++ (32 ∷ [])) ++ spelled spell.Signed 5) ++ (32 ∷ [])) ++ spelled
          spell.Signed 5);
      reads = 6;
      writes = 5;
      bytes = (0 ∷ 0 ∷ 0 ∷ 0 ∷ 5 ∷ 0 ∷ 0 ∷ 0 ∷ 37 ∷ 100 ∷ 32 ∷ 37 ∷ 100 ∷ 32 ∷ 37 ∷
          100 ∷ 32 ∷ 37 ∷ 100 ∷ 32 ∷ 0 ∷ 37 ∷ 100 ∷ 32 ∷ 37 ∷ 100 ∷ 32 ∷ 37 ∷ 100 ∷ 32 ∷ 0 ∷ 37 ∷ 100 ∷ 32 ∷ 37 ∷ 100 ∷ 32 ∷ 37
          ∷ 100 ∷ []);
      rest_is_zero = true;
    }
unfolding compared misplaced combined spelled most_bytes
steps_runs = refl

steps_tests : (nat_eq (open_tests steps (among ((3 ∷ []) ∷ [])) 0) 0 && true) ≡ true
steps_tests = refl

-- int main(void){int i=3;int j;j=i+(i=10);j=j*100+i++ + i;i+=(i=7);return j*100+i;}
abbrev variable_alias : Program
variable_alias = record { limit = 100; function = function } where
  addresses : ℕ → ℕ
  addresses k = slice_index [] k

  f0 : Function
  f0 = record {
    address = addresses;
    callee = λ g. g;
    parameters = [];
    frame = 0;
    body = (tree.Evaluate here (tree.Assign here kind.I32 (tree.InVariable 1) (tree.Number 3)) (tree.Evaluate here
        (tree.Assign here kind.I32 (tree.InVariable 2) (tree.Number 0)) (tree.Evaluate here (tree.Assign here kind.I32
        (tree.InVariable 2) (tree.Binary here op.Add (tree.Variable here 1) (tree.Assign here kind.I32 (tree.InVariable 1)
        (tree.Number 10)))) (tree.Evaluate here (tree.Assign here kind.I32 (tree.InVariable 2) (tree.Binary here op.Add
        (tree.Binary here op.Add (tree.Binary here op.Multiply (tree.Variable here 2) (tree.Number 100)) (tree.Step here
        kind.I32 (tree.InVariable 1) 1 false)) (tree.Variable here 1))) (tree.Evaluate here (tree.Update here kind.I32
        (tree.InVariable 1) op.Add (tree.Assign here kind.I32 (tree.InVariable 1) (tree.Number 7))) (tree.Evaluate here
        (tree.Exit here (tree.Binary here op.Add (tree.Binary here op.Multiply (tree.Variable here 2) (tree.Number 100))
        (tree.Variable here 1))) tree.Done))))));
  }

  function : ℕ → Function
  function f = f0

variable_alias_lawful : (is_lawful_body 128 3 (slice_get (0 ∷ [])) false (let p = variable_alias in p.function 0) && true) ≡ true
variable_alias_lawful = refl

abbrev variable_alias_data : List ℕ
variable_alias_data = []

variable_alias_runs :
    seen 0 (run variable_alias 100000 0 (start 128 16 variable_alias_data)) ≡
    record { end = Halted 132118; printed = []; reads = 0; writes = 0; bytes = []; rest_is_zero = true }
unfolding compared misplaced combined spelled most_bytes
variable_alias_runs = refl

variable_alias_works : nat_le (work_of (run variable_alias 100000 0 (start 128 16 variable_alias_data))) 108 ≡ true
unfolding compared misplaced combined spelled most_bytes
variable_alias_works = refl

variable_alias_reads : (nat_eq (wanted_reads variable_alias (among ([] ∷ [])) 0) 0 && true) ≡ true
variable_alias_reads = refl

variable_alias_tests : (nat_eq (open_tests variable_alias (among ([] ∷ [])) 0) 0 && true) ≡ true
variable_alias_tests = refl

-- #include <stdio.h>
-- int g=1;int h(void){g=50;return 2;}int main(void){int x=1;int*p=&g;x+=(x=10);*p+=h();printf("%d %d ",x,g);g-=(g=7)+g;printf("%d",g);return 0;}
abbrev update_reads_first : Program
update_reads_first = record { limit = 100; function = function } where
  addresses : ℕ → ℕ
  addresses k = slice_index (16 ∷ 20 ∷ 27 ∷ []) k

  f0 : Function
  f0 = record {
    address = addresses;
    callee = λ g. g;
    parameters = [];
    frame = 0;
    body = (tree.Evaluate here (tree.Assign here kind.I32 (tree.AtAddress false (tree.Address 0 0)) (tree.Number 50))
        (tree.Return here (Some (tree.Number 2)) tree.Done));
  }

  f1 : Function
  f1 = record {
    address = addresses;
    callee = λ g. g;
    parameters = [];
    frame = 0;
    body = (tree.Evaluate here (tree.Assign here kind.I32 (tree.InVariable 1) (tree.Number 1)) (tree.Evaluate here
        (tree.Assign here kind.I32 (tree.InVariable 2) (tree.Address 0 0)) (tree.Evaluate here (tree.Update here kind.I32
        (tree.InVariable 1) op.Add (tree.Assign here kind.I32 (tree.InVariable 1) (tree.Number 10))) (tree.Evaluate here
        (tree.Update here kind.I32 (tree.AtAddress true (tree.Variable here 2)) op.Add (tree.Call here 0
        tree.no_expressions)) (tree.Print here (tree.expression_then (tree.Variable here 1) (tree.expression_then
        (tree.Read here kind.I32 false (tree.Address 0 0)) tree.no_expressions)) (piece.Word spell.Signed 0 ∷ piece.Byte
        32 ∷ piece.Word spell.Signed 1 ∷ piece.Byte 32 ∷ []) (tree.Evaluate here (tree.Update here kind.I32
        (tree.AtAddress false (tree.Address 0 0)) op.Subtract (tree.Binary here op.Add (tree.Assign here kind.I32
        (tree.AtAddress false (tree.Address 0 0)) (tree.Number 7)) (tree.Read here kind.I32 false (tree.Address 0 0))))
        (tree.Print here (tree.expression_then (tree.Read here kind.I32 false (tree.Address 0 0)) tree.no_expressions)
        (piece.Word spell.Signed 0 ∷ []) (tree.Evaluate here (tree.Exit here (tree.Number 0)) tree.Done))))))));
  }

  function : ℕ → Function
  function f = (if nat_eq f 0 then f0 else f1)

update_reads_first_lawful : (is_lawful_body 128 1 (slice_get (0 ∷ 0 ∷ [])) true (let p = update_reads_first in p.function 0) && (is_lawful_body 128 3 (slice_get (0 ∷ 0 ∷ [])) false (let p = update_reads_first in p.function 1) && true)) ≡ true
update_reads_first_lawful = refl

abbrev update_reads_first_data : List ℕ
update_reads_first_data = (1 ∷ 0 ∷ 0 ∷ 0 ∷ 37 ∷ 100 ∷ 32 ∷ 37 ∷ 100 ∷ 32 ∷ 0 ∷ 37 ∷ 100 ∷ 0 ∷ [])

update_reads_first_runs :
    seen 13 (run update_reads_first 100000 1 (start 128 32 update_reads_first_data)) ≡
    record {
      end = Halted 0;
      printed = ((((([] ++ spelled spell.Signed 11) ++ (32 ∷ [])) ++ spelled spell.Signed 3) ++ (32
          ∷ [])) ++ spelled spell.Signed 4294967285);
      reads = 5;
      writes = 4;
      bytes = (245 ∷ 255 ∷ 255 ∷ 255 ∷ 37 ∷ 100 ∷ 32 ∷ 37
          ∷ 100 ∷ 32 ∷ 0 ∷ 37 ∷ 100 ∷ []);
      rest_is_zero = true;
    }
unfolding compared misplaced combined spelled most_bytes
update_reads_first_runs = refl

update_reads_first_reads : (nat_eq (wanted_reads update_reads_first (among ([] ∷ (2 ∷ []) ∷ [])) 0) 0 && true) ≡ true
update_reads_first_reads = refl

update_reads_first_tests : (nat_eq (open_tests update_reads_first (among ([] ∷ (2 ∷ []) ∷ [])) 0) 0 && (nat_eq (open_tests update_reads_first
    (among ([] ∷ (2 ∷ []) ∷ [])) 1) 0 && true)) ≡ true
update_reads_first_tests = refl

-- unsigned char g=250;int main(void){char c=200;short s=32767;signed char d=100;int r=(c+=100);s+=2;d*=2;r=r*1000+(g+=10);return r+(s<0)+(d==-56)*2+c;}
abbrev narrow_updates : Program
narrow_updates = record { limit = 100; function = function } where
  addresses : ℕ → ℕ
  addresses k = slice_index (16 ∷ []) k

  f0 : Function
  f0 = record {
    address = addresses;
    callee = λ g. g;
    parameters = [];
    frame = 0;
    body = (tree.Evaluate here (tree.Assign here kind.U8 (tree.InVariable 1) (tree.Number 200)) (tree.Evaluate here
        (tree.Assign here kind.I16 (tree.InVariable 2) (tree.Number 32767)) (tree.Evaluate here (tree.Assign here kind.I8
        (tree.InVariable 3) (tree.Number 100)) (tree.Evaluate here (tree.Assign here kind.I32 (tree.InVariable 4)
        (tree.Update here kind.U8 (tree.InVariable 1) op.Add (tree.Number 100))) (tree.Evaluate here (tree.Update here
        kind.I16 (tree.InVariable 2) op.Add (tree.Number 2)) (tree.Evaluate here (tree.Update here kind.I8
        (tree.InVariable 3) op.Multiply (tree.Number 2)) (tree.Evaluate here (tree.Assign here kind.I32 (tree.InVariable
        4) (tree.Binary here op.Add (tree.Binary here op.Multiply (tree.Variable here 4) (tree.Number 1000)) (tree.Update
        here kind.U8 (tree.AtAddress false (tree.Address 0 0)) op.Add (tree.Number 10)))) (tree.Evaluate here (tree.Exit
        here (tree.Binary here op.Add (tree.Binary here op.Add (tree.Binary here op.Add (tree.Variable here 4)
        (tree.Compare here rel.LessSigned false (tree.Variable here 2) (tree.Number 0))) (tree.Binary here op.Multiply
        (tree.Compare here rel.Equal false (tree.Variable here 3) (tree.Number 4294967240)) (tree.Number 2)))
        (tree.Variable here 1))) tree.Done))))))));
  }

  function : ℕ → Function
  function f = f0

narrow_updates_lawful : (is_lawful_body 128 5 (slice_get (0 ∷ [])) false (let p = narrow_updates in p.function 0) && true) ≡ true
narrow_updates_lawful = refl

abbrev narrow_updates_data : List ℕ
narrow_updates_data = (250 ∷ [])

narrow_updates_runs :
    seen 1 (run narrow_updates 100000 0 (start 128 20 narrow_updates_data)) ≡
    record { end = Halted 44051; printed = []; reads = 1; writes = 1; bytes = (4 ∷ []); rest_is_zero = true }
unfolding compared misplaced combined spelled most_bytes
narrow_updates_runs = refl

narrow_updates_works : nat_le (work_of (run narrow_updates 100000 0 (start 128 20 narrow_updates_data))) 135 ≡ true
unfolding compared misplaced combined spelled most_bytes
narrow_updates_works = refl

narrow_updates_reads : (nat_eq (wanted_reads narrow_updates (among ([] ∷ [])) 0) 0 && true) ≡ true
narrow_updates_reads = refl

narrow_updates_tests : (nat_eq (open_tests narrow_updates (among ([] ∷ [])) 0) 0 && true) ≡ true
narrow_updates_tests = refl

-- int z;int main(void){int x=5;x%=3;x/=z;return x;}
abbrev update_traps : Program
update_traps = record { limit = 100; function = function } where
  addresses : ℕ → ℕ
  addresses k = slice_index (16 ∷ []) k

  f0 : Function
  f0 = record {
    address = addresses;
    callee = λ g. g;
    parameters = [];
    frame = 0;
    body = (tree.Evaluate here (tree.Assign here kind.I32 (tree.InVariable 1) (tree.Number 5)) (tree.Evaluate here
        (tree.Update here kind.I32 (tree.InVariable 1) op.RemainderSigned (tree.Number 3)) (tree.Evaluate here
        (tree.Update here kind.I32 (tree.InVariable 1) op.DivideSigned (tree.Read here kind.I32 false (tree.Address 0 0)))
        (tree.Evaluate here (tree.Exit here (tree.Variable here 1)) tree.Done))));
  }

  function : ℕ → Function
  function f = f0

update_traps_lawful : (is_lawful_body 128 2 (slice_get (0 ∷ [])) false (let p = update_traps in p.function 0) && true) ≡ true
update_traps_lawful = refl

abbrev update_traps_data : List ℕ
update_traps_data = (0 ∷ 0 ∷ 0 ∷ 0 ∷ [])

update_traps_runs :
    seen 0 (run update_traps 100000 0 (start 128 20 update_traps_data)) ≡
    record { end = Trapped 1; printed = []; reads = 1; writes = 0; bytes = []; rest_is_zero = true }
unfolding compared misplaced combined spelled most_bytes
update_traps_runs = refl

update_traps_works : nat_le (work_of (run update_traps 100000 0 (start 128 20 update_traps_data))) 36 ≡ true
unfolding compared misplaced combined spelled most_bytes
update_traps_works = refl

update_traps_reads : (nat_eq (wanted_reads update_traps (among ([] ∷ [])) 0) 0 && true) ≡ true
update_traps_reads = refl

update_traps_tests : (nat_eq (open_tests update_traps (among ([] ∷ [])) 0) 0 && true) ≡ true
update_traps_tests = refl

-- unsigned z;int main(void){unsigned x=5;return x%z;}
abbrev unsigned_by_zero : Program
unsigned_by_zero = record { limit = 100; function = function } where
  addresses : ℕ → ℕ
  addresses k = slice_index (16 ∷ []) k

  f0 : Function
  f0 = record {
    address = addresses;
    callee = λ g. g;
    parameters = [];
    frame = 0;
    body = (tree.Evaluate here (tree.Assign here kind.I32 (tree.InVariable 1) (tree.Number 5)) (tree.Evaluate here (tree.Exit
        here (tree.Binary here op.RemainderUnsigned (tree.Variable here 1) (tree.Read here kind.I32 false (tree.Address 0
        0)))) tree.Done));
  }

  function : ℕ → Function
  function f = f0

unsigned_by_zero_lawful : (is_lawful_body 128 2 (slice_get (0 ∷ [])) false (let p = unsigned_by_zero in p.function 0) && true) ≡ true
unsigned_by_zero_lawful = refl

abbrev unsigned_by_zero_data : List ℕ
unsigned_by_zero_data = (0 ∷ 0 ∷ 0 ∷ 0 ∷ [])

unsigned_by_zero_runs :
    seen 0 (run unsigned_by_zero 100000 0 (start 128 20 unsigned_by_zero_data)) ≡
    record { end = Trapped 1; printed = []; reads = 1; writes = 0; bytes = []; rest_is_zero = true }
unfolding compared misplaced combined spelled most_bytes
unsigned_by_zero_runs = refl

unsigned_by_zero_works : nat_le (work_of (run unsigned_by_zero 100000 0 (start 128 20 unsigned_by_zero_data))) 24 ≡ true
unfolding compared misplaced combined spelled most_bytes
unsigned_by_zero_works = refl

unsigned_by_zero_reads : (nat_eq (wanted_reads unsigned_by_zero (among ([] ∷ [])) 0) 0 && true) ≡ true
unsigned_by_zero_reads = refl

unsigned_by_zero_tests : (nat_eq (open_tests unsigned_by_zero (among ([] ∷ [])) 0) 0 && true) ≡ true
unsigned_by_zero_tests = refl

-- #include <stdio.h>
-- int main(void){int x=putchar(353);return x*1000+putchar(-159);}
abbrev putchar_gives_byte : Program
putchar_gives_byte = record { limit = 100; function = function } where
  addresses : ℕ → ℕ
  addresses k = slice_index [] k

  f0 : Function
  f0 = record {
    address = addresses;
    callee = λ g. g;
    parameters = [];
    frame = 0;
    body = (tree.Evaluate here (tree.Assign here kind.I32 (tree.InVariable 1) (tree.Putchar here (tree.Number 353)))
        (tree.Evaluate here (tree.Exit here (tree.Binary here op.Add (tree.Binary here op.Multiply (tree.Variable here 1)
        (tree.Number 1000)) (tree.Putchar here (tree.Number 4294967137)))) tree.Done));
  }

  function : ℕ → Function
  function f = f0

putchar_gives_byte_lawful : (is_lawful_body 128 2 (slice_get (0 ∷ [])) false (let p = putchar_gives_byte in p.function 0) && true) ≡ true
putchar_gives_byte_lawful = refl

abbrev putchar_gives_byte_data : List ℕ
putchar_gives_byte_data = []

putchar_gives_byte_runs :
    seen 0 (run putchar_gives_byte 100000 0 (start 128 16 putchar_gives_byte_data)) ≡
    record {
      end = Halted 97097;
      printed = (([] ++ spelled spell.Byte 97) ++ spelled spell.Byte 97);
      reads = 0;
      writes =
          0;
      bytes = [];
      rest_is_zero = true;
    }
unfolding compared misplaced combined spelled most_bytes
putchar_gives_byte_runs = refl

putchar_gives_byte_works : nat_le (work_of (run putchar_gives_byte 100000 0 (start 128 16 putchar_gives_byte_data))) 51 ≡ true
unfolding compared misplaced combined spelled most_bytes
putchar_gives_byte_works = refl

putchar_gives_byte_reads : (nat_eq (wanted_reads putchar_gives_byte (among ([] ∷ [])) 0) 0 && true) ≡ true
putchar_gives_byte_reads = refl

putchar_gives_byte_tests : (nat_eq (open_tests putchar_gives_byte (among ([] ∷ [])) 0) 0 && true) ≡ true
putchar_gives_byte_tests = refl

-- #include <stdio.h>
-- int f(int p){int a=p,b=p+1,c=p+2,d=p+3,e=p+4,f=p+5,g=p+6,h=p+7,i=p+8,j=p+9,k=p+10,l=p+11,m=p+12,n=p+13,o=p+14,q=p+15;return a+b+c+d+e+f+g+h+i+j+k+l+m+n+o+q;}
-- int main(void){printf("%d\n",f(1));return 0;}
abbrev sixteen_locals : Program
sixteen_locals = record { limit = 100; function = function } where
  addresses : ℕ → ℕ
  addresses k = slice_index (16 ∷ []) k

  f0 : Function
  f0 = record {
    address = addresses;
    callee = λ g. g;
    parameters = (None ∷ []);
    frame = 0;
    body = (tree.Evaluate here (tree.Assign here kind.I32 (tree.InVariable 2) (tree.Variable here 1)) (tree.Evaluate here
        (tree.Assign here kind.I32 (tree.InVariable 3) (tree.Binary here op.Add (tree.Variable here 1) (tree.Number 1)))
        (tree.Evaluate here (tree.Assign here kind.I32 (tree.InVariable 4) (tree.Binary here op.Add (tree.Variable here 1)
        (tree.Number 2))) (tree.Evaluate here (tree.Assign here kind.I32 (tree.InVariable 5) (tree.Binary here op.Add
        (tree.Variable here 1) (tree.Number 3))) (tree.Evaluate here (tree.Assign here kind.I32 (tree.InVariable 6)
        (tree.Binary here op.Add (tree.Variable here 1) (tree.Number 4))) (tree.Evaluate here (tree.Assign here kind.I32
        (tree.InVariable 7) (tree.Binary here op.Add (tree.Variable here 1) (tree.Number 5))) (tree.Evaluate here
        (tree.Assign here kind.I32 (tree.InVariable 8) (tree.Binary here op.Add (tree.Variable here 1) (tree.Number 6)))
        (tree.Evaluate here (tree.Assign here kind.I32 (tree.InVariable 9) (tree.Binary here op.Add (tree.Variable here 1)
        (tree.Number 7))) (tree.Evaluate here (tree.Assign here kind.I32 (tree.InVariable 10) (tree.Binary here op.Add
        (tree.Variable here 1) (tree.Number 8))) (tree.Evaluate here (tree.Assign here kind.I32 (tree.InVariable 11)
        (tree.Binary here op.Add (tree.Variable here 1) (tree.Number 9))) (tree.Evaluate here (tree.Assign here kind.I32
        (tree.InVariable 12) (tree.Binary here op.Add (tree.Variable here 1) (tree.Number 10))) (tree.Evaluate here
        (tree.Assign here kind.I32 (tree.InVariable 13) (tree.Binary here op.Add (tree.Variable here 1) (tree.Number 11)))
        (tree.Evaluate here (tree.Assign here kind.I32 (tree.InVariable 14) (tree.Binary here op.Add (tree.Variable here
        1) (tree.Number 12))) (tree.Evaluate here (tree.Assign here kind.I32 (tree.InVariable 15) (tree.Binary here op.Add
        (tree.Variable here 1) (tree.Number 13))) (tree.Evaluate here (tree.Assign here kind.I32 (tree.InVariable 16)
        (tree.Binary here op.Add (tree.Variable here 1) (tree.Number 14))) (tree.Evaluate here (tree.Assign here kind.I32
        (tree.InVariable 17) (tree.Binary here op.Add (tree.Variable here 1) (tree.Number 15))) (tree.Return here (Some
        (tree.Binary here op.Add (tree.Binary here op.Add (tree.Binary here op.Add (tree.Binary here op.Add (tree.Binary
        here op.Add (tree.Binary here op.Add (tree.Binary here op.Add (tree.Binary here op.Add (tree.Binary here op.Add
        (tree.Binary here op.Add (tree.Binary here op.Add (tree.Binary here op.Add (tree.Binary here op.Add (tree.Binary
        here op.Add (tree.Binary here op.Add (tree.Variable here 2) (tree.Variable here 3)) (tree.Variable here 4))
        (tree.Variable here 5)) (tree.Variable here 6)) (tree.Variable here 7)) (tree.Variable here 8)) (tree.Variable
        here 9)) (tree.Variable here 10)) (tree.Variable here 11)) (tree.Variable here 12)) (tree.Variable here 13))
        (tree.Variable here 14)) (tree.Variable here 15)) (tree.Variable here 16)) (tree.Variable here 17)))
        tree.Done)))))))))))))))));
  }

  f1 : Function
  f1 = record {
    address = addresses;
    callee = λ g. g;
    parameters = [];
    frame = 0;
    body = (tree.Print here (tree.expression_then (tree.Call here 0 (tree.expression_then (tree.Number 1)
        tree.no_expressions)) tree.no_expressions) (piece.Word spell.Signed 0 ∷ piece.Byte 10 ∷ []) (tree.Evaluate here
        (tree.Exit here (tree.Number 0)) tree.Done));
  }

  function : ℕ → Function
  function f = (if nat_eq f 0 then f0 else f1)

sixteen_locals_lawful : (is_lawful_body 128 18 (slice_get (1 ∷ 0 ∷ [])) true (let p = sixteen_locals in p.function 0) && (is_lawful_body 128 1 (slice_get (1 ∷ 0 ∷ [])) false (let p = sixteen_locals in p.function 1) && true)) ≡ true
sixteen_locals_lawful = refl

abbrev sixteen_locals_data : List ℕ
sixteen_locals_data = (37 ∷ 100 ∷ 10 ∷ 0 ∷ [])

sixteen_locals_runs :
    seen 3 (run sixteen_locals 100000 1 (start 128 20 sixteen_locals_data)) ≡
    record {
      end = Halted 0;
      printed = (([] ++ spelled spell.Signed 136) ++ (10 ∷ []));
      reads = 0;
      writes = 0;
      bytes = (37
          ∷ 100 ∷ 10 ∷ []);
      rest_is_zero = true;
    }
unfolding compared misplaced combined spelled most_bytes
sixteen_locals_runs = refl

sixteen_locals_reads : (nat_eq (wanted_reads sixteen_locals (among ([] ∷ [] ∷ [])) 0) 0 && (nat_eq (wanted_reads sixteen_locals (among ([] ∷
    [] ∷ [])) 1) 0 && true)) ≡ true
sixteen_locals_reads = refl

sixteen_locals_tests : (nat_eq (open_tests sixteen_locals (among ([] ∷ [] ∷ [])) 0) 0 && (nat_eq (open_tests sixteen_locals (among ([] ∷ [] ∷
    [])) 1) 0 && true)) ≡ true
sixteen_locals_tests = refl

-- int main(void){int i;int s=0;for(i=0;i<3;i++){int k=k+1;s+=k;}return s;}
abbrev self_init : Program
self_init = record { limit = 100; function = function } where
  addresses : ℕ → ℕ
  addresses k = slice_index [] k

  f0 : Function
  f0 = record {
    address = addresses;
    callee = λ g. g;
    parameters = [];
    frame = 0;
    body = (tree.Evaluate here (tree.Assign here kind.I32 (tree.InVariable 1) (tree.Number 0)) (tree.Evaluate here
        (tree.Assign here kind.I32 (tree.InVariable 2) (tree.Number 0)) (tree.Evaluate here (tree.Assign here kind.I32
        (tree.InVariable 1) (tree.Number 0)) (tree.Loop here (Some (tree.Compare here rel.LessSigned false (tree.Variable
        here 1) (tree.Number 3))) (tree.Evaluate here (tree.Assign here kind.I32 (tree.InVariable 3) (tree.Binary here
        op.Add (tree.Variable here 3) (tree.Number 1))) (tree.Evaluate here (tree.Update here kind.I32 (tree.InVariable 2)
        op.Add (tree.Variable here 3)) tree.Done)) (Some (tree.Step here kind.I32 (tree.InVariable 1) 1 false))
        (tree.Evaluate here (tree.Exit here (tree.Variable here 2)) tree.Done)))));
  }

  function : ℕ → Function
  function f = f0

self_init_lawful : (is_lawful_body 128 4 (slice_get (0 ∷ [])) false (let p = self_init in p.function 0) && true) ≡ true
self_init_lawful = refl

abbrev self_init_data : List ℕ
self_init_data = []

self_init_runs :
    seen 0 (run self_init 100000 0 (start 128 16 self_init_data)) ≡
    record { end = Halted 6; printed = []; reads = 0; writes = 0; bytes = []; rest_is_zero = true }
unfolding compared misplaced combined spelled most_bytes
self_init_runs = refl

self_init_works : nat_le (work_of (run self_init 100000 0 (start 128 16 self_init_data))) 177 ≡ true
unfolding compared misplaced combined spelled most_bytes
self_init_works = refl

self_init_reads : (nat_eq (wanted_reads self_init (among ([] ∷ [])) 0) 0 && true) ≡ true
self_init_reads = refl

self_init_tests : (nat_eq (open_tests self_init (among ([] ∷ [])) 0) 0 && true) ≡ true
self_init_tests = refl

-- #include <stdio.h>
-- #include <stdlib.h>
-- int g;int main(void){g=1;return g+(putchar(97),abort(),g=2);}
abbrev abort_in_middle : Program
abort_in_middle = record { limit = 100; function = function } where
  addresses : ℕ → ℕ
  addresses k = slice_index (16 ∷ []) k

  f0 : Function
  f0 = record {
    address = addresses;
    callee = λ g. g;
    parameters = [];
    frame = 0;
    body = (tree.Evaluate here (tree.Assign here kind.I32 (tree.AtAddress false (tree.Address 0 0)) (tree.Number 1))
        (tree.Evaluate here (tree.Exit here (tree.Binary here op.Add (tree.Read here kind.I32 false (tree.Address 0 0))
        (tree.Comma (tree.Comma (tree.Putchar here (tree.Number 97)) (tree.Abort here)) (tree.Assign here kind.I32
        (tree.AtAddress false (tree.Address 0 0)) (tree.Number 2))))) tree.Done));
  }

  function : ℕ → Function
  function f = f0

abort_in_middle_lawful : (is_lawful_body 128 1 (slice_get (0 ∷ [])) false (let p = abort_in_middle in p.function 0) && true) ≡ true
abort_in_middle_lawful = refl

abbrev abort_in_middle_data : List ℕ
abort_in_middle_data = (0 ∷ 0 ∷ 0 ∷ 0 ∷ [])

abort_in_middle_runs :
    seen 1 (run abort_in_middle 100000 0 (start 128 20 abort_in_middle_data)) ≡
    record {
      end = Trapped 5;
      printed = ([] ++ spelled spell.Byte 97);
      reads = 1;
      writes = 1;
      bytes = (1 ∷ []);
      rest_is_zero = true;
    }
unfolding compared misplaced combined spelled most_bytes
abort_in_middle_runs = refl

abort_in_middle_works : nat_le (work_of (run abort_in_middle 100000 0 (start 128 20 abort_in_middle_data))) 57 ≡ true
unfolding compared misplaced combined spelled most_bytes
abort_in_middle_works = refl

abort_in_middle_reads : (nat_eq (wanted_reads abort_in_middle (among ([] ∷ [])) 0) 0 && true) ≡ true
abort_in_middle_reads = refl

abort_in_middle_tests : (nat_eq (open_tests abort_in_middle (among ([] ∷ [])) 0) 0 && true) ≡ true
abort_in_middle_tests = refl

-- #include <stdlib.h>
-- #include <stdio.h>
-- int main(void){int i=putchar(300);if(i==44)abort();return 1;}
abbrev aborts : Program
aborts = record { limit = 100; function = function } where
  addresses : ℕ → ℕ
  addresses k = slice_index [] k

  f0 : Function
  f0 = record {
    address = addresses;
    callee = λ g. g;
    parameters = [];
    frame = 0;
    body = (tree.Evaluate here (tree.Assign here kind.I32 (tree.InVariable 1) (tree.Putchar here (tree.Number 300))) (tree.If
        here (tree.Compare here rel.Equal false (tree.Variable here 1) (tree.Number 44)) (tree.Evaluate here (tree.Abort
        here) tree.Done) tree.Done (tree.Evaluate here (tree.Exit here (tree.Number 1)) tree.Done)));
  }

  function : ℕ → Function
  function f = f0

aborts_lawful : (is_lawful_body 128 2 (slice_get (0 ∷ [])) false (let p = aborts in p.function 0) && true) ≡ true
aborts_lawful = refl

abbrev aborts_data : List ℕ
aborts_data = []

aborts_runs :
    seen 0 (run aborts 100000 0 (start 128 16 aborts_data)) ≡
    record {
      end = Trapped 5;
      printed = ([] ++ spelled spell.Byte 44);
      reads = 0;
      writes = 0;
      bytes = [];
      rest_is_zero =
          true;
    }
unfolding compared misplaced combined spelled most_bytes
aborts_runs = refl

aborts_works : nat_le (work_of (run aborts 100000 0 (start 128 16 aborts_data))) 39 ≡ true
unfolding compared misplaced combined spelled most_bytes
aborts_works = refl

aborts_reads : (nat_eq (wanted_reads aborts (among ([] ∷ [])) 0) 0 && true) ≡ true
aborts_reads = refl

aborts_tests : (nat_eq (open_tests aborts (among ([] ∷ [])) 0) 0 && true) ≡ true
aborts_tests = refl

-- #include <stdio.h>
-- int main(void){int n=10;int d=0;if(n>5)n=n/d;printf("%d\n",n);return 0;}
abbrev late_division : Program
late_division = record { limit = 100; function = function } where
  addresses : ℕ → ℕ
  addresses k = slice_index (16 ∷ []) k

  f0 : Function
  f0 = record {
    address = addresses;
    callee = λ g. g;
    parameters = [];
    frame = 0;
    body = (tree.Evaluate here (tree.Assign here kind.I32 (tree.InVariable 1) (tree.Number 10)) (tree.Evaluate here
        (tree.Assign here kind.I32 (tree.InVariable 2) (tree.Number 0)) (tree.If here (tree.Compare here rel.LessSigned
        true (tree.Variable here 1) (tree.Number 5)) (tree.Evaluate here (tree.Assign here kind.I32 (tree.InVariable 1)
        (tree.Binary here op.DivideSigned (tree.Variable here 1) (tree.Variable here 2))) tree.Done) tree.Done (tree.Print
        here (tree.expression_then (tree.Variable here 1) tree.no_expressions) (piece.Word spell.Signed 0 ∷ piece.Byte 10
        ∷ []) (tree.Evaluate here (tree.Exit here (tree.Number 0)) tree.Done)))));
  }

  function : ℕ → Function
  function f = f0

late_division_lawful : (is_lawful_body 128 3 (slice_get (0 ∷ [])) false (let p = late_division in p.function 0) && true) ≡ true
late_division_lawful = refl

abbrev late_division_data : List ℕ
late_division_data = (37 ∷ 100 ∷ 10 ∷ 0 ∷ [])

late_division_runs :
    seen 3 (run late_division 100000 0 (start 128 20 late_division_data)) ≡
    record { end = Trapped 1; printed = []; reads = 0; writes = 0; bytes = (37 ∷ 100 ∷ 10 ∷ []); rest_is_zero = true }
unfolding compared misplaced combined spelled most_bytes
late_division_runs = refl

late_division_works : nat_le (work_of (run late_division 100000 0 (start 128 20 late_division_data))) 48 ≡ true
unfolding compared misplaced combined spelled most_bytes
late_division_works = refl

late_division_reads : (nat_eq (wanted_reads late_division (among ([] ∷ [])) 0) 0 && true) ≡ true
late_division_reads = refl

late_division_tests : (nat_eq (open_tests late_division (among ([] ∷ [])) 0) 0 && true) ≡ true
late_division_tests = refl
