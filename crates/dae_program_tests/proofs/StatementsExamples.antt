-- Examples of statements: programs, and what an independent implementation of their meaning finds of them. Made by
-- tools/meaning/terms.py.
use Rattle.std.proofs.Common.{◌≡◌, ℕ, true, false, ◌&&◌, ◌∷◌, List, [], ◌++◌, Some, None, nat_eq, if◌then◌else◌, refl}
use Rattle.std.specs.Prelude.{slice_index, slice_get, nat_le}
use Rattle.dae_base.specs.declared.LoadKind.TheVariants as kind
use Rattle.dae_meaning.specs.Operations.{compared, misplaced, combined, spelled}
use Rattle.dae_meaning.specs.Results.{Halted, Going}
use Rattle.dae_meaning.specs.declared.Operator.TheVariants as op
use Rattle.dae_meaning.specs.declared.Comparison.TheVariants as rel
use Rattle.dae_meaning.specs.declared.Spelling.TheVariants as spell
use Rattle.dae_program.specs.declared.statements.FormatPiece.TheVariants as piece
use Rattle.dae_program.specs.Trees as tree
use Rattle.dae_program.specs.Trees.{Program, Function}
use Rattle.dae_program.specs.Printing.{most_bytes}
use Rattle.dae_program.specs.Programs.{run, start}
use Rattle.dae_program.specs.Lawful.{is_lawful_body}
use Rattle.dae_program.specs.Wanted.{wanted_reads, open_tests}
use Rattle.dae_program_tests.proofs.Seen.{here, seen, work_of, among}

-- int main(void){return 0;}
abbrev nothing : Program
nothing = record { limit = 100; function = function } where
  addresses : ℕ → ℕ
  addresses k = slice_index [] k

  f0 : Function
  f0 = record {
    address = addresses;
    callee = λ g. g;
    parameters = [];
    frame = 0;
    body = (tree.Evaluate here (tree.Exit here (tree.Number 0)) tree.Done);
  }

  function : ℕ → Function
  function f = f0

nothing_lawful : (is_lawful_body 128 1 (slice_get (0 ∷ [])) false (let p = nothing in p.function 0) && true) ≡ true
nothing_lawful = refl

abbrev nothing_data : List ℕ
nothing_data = []

nothing_runs :
    seen 0 (run nothing 100000 0 (start 128 16 nothing_data)) ≡
    record { end = Halted 0; printed = []; reads = 0; writes = 0; bytes = []; rest_is_zero = true }
unfolding compared misplaced combined spelled most_bytes
nothing_runs = refl

nothing_works : nat_le (work_of (run nothing 100000 0 (start 128 16 nothing_data))) 12 ≡ true
unfolding compared misplaced combined spelled most_bytes
nothing_works = refl

nothing_reads : (nat_eq (wanted_reads nothing (among ([] ∷ [])) 0) 0 && true) ≡ true
nothing_reads = refl

nothing_tests : (nat_eq (open_tests nothing (among ([] ∷ [])) 0) 0 && true) ≡ true
nothing_tests = refl

-- int g;int main(void){g=1;return 1;}
abbrev returns_one : Program
returns_one = record { limit = 100; function = function } where
  addresses : ℕ → ℕ
  addresses k = slice_index (16 ∷ []) k

  f0 : Function
  f0 = record {
    address = addresses;
    callee = λ g. g;
    parameters = [];
    frame = 0;
    body = (tree.Evaluate here (tree.Assign here kind.I32 (tree.AtAddress false (tree.Address 0 0)) (tree.Number 1))
        (tree.Evaluate here (tree.Exit here (tree.Number 1)) tree.Done));
  }

  function : ℕ → Function
  function f = f0

returns_one_lawful : (is_lawful_body 128 1 (slice_get (0 ∷ [])) false (let p = returns_one in p.function 0) && true) ≡ true
returns_one_lawful = refl

abbrev returns_one_data : List ℕ
returns_one_data = (0 ∷ 0 ∷ 0 ∷ 0 ∷ [])

returns_one_runs :
    seen 1 (run returns_one 100000 0 (start 128 20 returns_one_data)) ≡
    record { end = Halted 1; printed = []; reads = 0; writes = 1; bytes = (1 ∷ []); rest_is_zero = true }
unfolding compared misplaced combined spelled most_bytes
returns_one_runs = refl

returns_one_works : nat_le (work_of (run returns_one 100000 0 (start 128 20 returns_one_data))) 24 ≡ true
unfolding compared misplaced combined spelled most_bytes
returns_one_works = refl

returns_one_reads : (nat_eq (wanted_reads returns_one (among ([] ∷ [])) 0) 0 && true) ≡ true
returns_one_reads = refl

returns_one_tests : (nat_eq (open_tests returns_one (among ([] ∷ [])) 0) 0 && true) ≡ true
returns_one_tests = refl

-- #include <stdio.h>
-- int main(void){int i,j,s=0;for(i=0;;i++){if(i==5)break;for(j=0;j<5;j++){if(j==i)continue;if(j>3)break;s+=i*j;}do{s++;if(s%3==0)continue;s++;}while(s%5);}while(s>100)s-=7;printf("%d\n",s);return 0;}
abbrev loops : Program
loops = record { limit = 100; function = function } where
  addresses : ℕ → ℕ
  addresses k = slice_index (16 ∷ []) k

  f0 : Function
  f0 = record {
    address = addresses;
    callee = λ g. g;
    parameters = [];
    frame = 0;
    body = (tree.Evaluate here (tree.Assign here kind.I32 (tree.InVariable 1) (tree.Number 0)) (tree.Evaluate here
        (tree.Assign here kind.I32 (tree.InVariable 2) (tree.Number 0)) (tree.Evaluate here (tree.Assign here kind.I32
        (tree.InVariable 3) (tree.Number 0)) (tree.Evaluate here (tree.Assign here kind.I32 (tree.InVariable 1)
        (tree.Number 0)) (tree.Loop here None (tree.If here (tree.Compare here rel.Equal false (tree.Variable here 1)
        (tree.Number 5)) (tree.Break here tree.Done) tree.Done (tree.Evaluate here (tree.Assign here kind.I32
        (tree.InVariable 2) (tree.Number 0)) (tree.Loop here (Some (tree.Compare here rel.LessSigned false (tree.Variable
        here 2) (tree.Number 5))) (tree.If here (tree.Compare here rel.Equal false (tree.Variable here 2) (tree.Variable
        here 1)) (tree.Continue here tree.Done) tree.Done (tree.If here (tree.Compare here rel.LessSigned true
        (tree.Variable here 2) (tree.Number 3)) (tree.Break here tree.Done) tree.Done (tree.Evaluate here (tree.Update
        here kind.I32 (tree.InVariable 3) op.Add (tree.Binary here op.Multiply (tree.Variable here 1) (tree.Variable here
        2))) tree.Done))) (Some (tree.Step here kind.I32 (tree.InVariable 2) 1 false)) (tree.Do here (tree.Evaluate here
        (tree.Step here kind.I32 (tree.InVariable 3) 1 false) (tree.If here (tree.Compare here rel.Equal false
        (tree.Binary here op.RemainderSigned (tree.Variable here 3) (tree.Number 3)) (tree.Number 0)) (tree.Continue here
        tree.Done) tree.Done (tree.Evaluate here (tree.Step here kind.I32 (tree.InVariable 3) 1 false) tree.Done)))
        (tree.Binary here op.RemainderSigned (tree.Variable here 3) (tree.Number 5)) tree.Done)))) (Some (tree.Step here
        kind.I32 (tree.InVariable 1) 1 false)) (tree.Loop here (Some (tree.Compare here rel.LessSigned true (tree.Variable
        here 3) (tree.Number 100))) (tree.Evaluate here (tree.Update here kind.I32 (tree.InVariable 3) op.Subtract
        (tree.Number 7)) tree.Done) None (tree.Print here (tree.expression_then (tree.Variable here 3)
        tree.no_expressions) (piece.Word spell.Signed 0 ∷ piece.Byte 10 ∷ []) (tree.Evaluate here (tree.Exit here
        (tree.Number 0)) tree.Done))))))));
  }

  function : ℕ → Function
  function f = f0

loops_lawful : (is_lawful_body 128 4 (slice_get (0 ∷ [])) false (let p = loops in p.function 0) && true) ≡ true
loops_lawful = refl

abbrev loops_data : List ℕ
loops_data = (37 ∷ 100 ∷ 10 ∷ 0 ∷ [])

loops_runs :
    seen 3 (run loops 100000 0 (start 128 20 loops_data)) ≡
    record {
      end = Halted 0;
      printed = (([] ++ spelled spell.Signed 75) ++ (10 ∷ []));
      reads = 0;
      writes = 0;
      bytes = (37
          ∷ 100 ∷ 10 ∷ []);
      rest_is_zero = true;
    }
unfolding compared misplaced combined spelled most_bytes
loops_runs = refl

loops_reads : (nat_eq (wanted_reads loops (among ([] ∷ [])) 0) 0 && true) ≡ true
loops_reads = refl

loops_tests : (nat_eq (open_tests loops (among ([] ∷ [])) 0) 0 && true) ≡ true
loops_tests = refl

-- #include <stdio.h>
-- int main(void){int n=27;int s=0;while(n!=1){if(n%2)n=3*n+1;else n=n/2;s++;}printf("%d\n",s);return 0;}
abbrev collatz : Program
collatz = record { limit = 100; function = function } where
  addresses : ℕ → ℕ
  addresses k = slice_index (16 ∷ []) k

  f0 : Function
  f0 = record {
    address = addresses;
    callee = λ g. g;
    parameters = [];
    frame = 0;
    body = (tree.Evaluate here (tree.Assign here kind.I32 (tree.InVariable 1) (tree.Number 27)) (tree.Evaluate here
        (tree.Assign here kind.I32 (tree.InVariable 2) (tree.Number 0)) (tree.Loop here (Some (tree.Compare here
        rel.NotEqual false (tree.Variable here 1) (tree.Number 1))) (tree.If here (tree.Binary here op.RemainderSigned
        (tree.Variable here 1) (tree.Number 2)) (tree.Evaluate here (tree.Assign here kind.I32 (tree.InVariable 1)
        (tree.Binary here op.Add (tree.Binary here op.Multiply (tree.Number 3) (tree.Variable here 1)) (tree.Number 1)))
        tree.Done) (tree.Evaluate here (tree.Assign here kind.I32 (tree.InVariable 1) (tree.Binary here op.DivideSigned
        (tree.Variable here 1) (tree.Number 2))) tree.Done) (tree.Evaluate here (tree.Step here kind.I32 (tree.InVariable
        2) 1 false) tree.Done)) None (tree.Print here (tree.expression_then (tree.Variable here 2) tree.no_expressions)
        (piece.Word spell.Signed 0 ∷ piece.Byte 10 ∷ []) (tree.Evaluate here (tree.Exit here (tree.Number 0))
        tree.Done)))));
  }

  function : ℕ → Function
  function f = f0

collatz_lawful : (is_lawful_body 128 3 (slice_get (0 ∷ [])) false (let p = collatz in p.function 0) && true) ≡ true
collatz_lawful = refl

abbrev collatz_data : List ℕ
collatz_data = (37 ∷ 100 ∷ 10 ∷ 0 ∷ [])

collatz_runs :
    seen 3 (run collatz 100000 0 (start 128 20 collatz_data)) ≡
    record {
      end = Halted 0;
      printed = (([] ++ spelled spell.Signed 111) ++ (10 ∷ []));
      reads = 0;
      writes = 0;
      bytes = (37
          ∷ 100 ∷ 10 ∷ []);
      rest_is_zero = true;
    }
unfolding compared misplaced combined spelled most_bytes
collatz_runs = refl

collatz_reads : (nat_eq (wanted_reads collatz (among ([] ∷ [])) 0) 0 && true) ≡ true
collatz_reads = refl

collatz_tests : (nat_eq (open_tests collatz (among ([] ∷ [])) 0) 0 && true) ≡ true
collatz_tests = refl

-- #include <stdio.h>
-- int a[4]={1,2,3,4};int b[4]={10,20,30,40};int c[4];int main(void){int i;for(i=0;i<4;i++)c[i]=a[i]+b[i];for(i=0;i<4;i++)printf("%d\n",c[i]);return 0;}
abbrev sum_of_arrays : Program
sum_of_arrays = record { limit = 100; function = function } where
  addresses : ℕ → ℕ
  addresses k = slice_index (16 ∷ 32 ∷ 48 ∷ 64 ∷ []) k

  f0 : Function
  f0 = record {
    address = addresses;
    callee = λ g. g;
    parameters = [];
    frame = 0;
    body = (tree.Evaluate here (tree.Assign here kind.I32 (tree.InVariable 1) (tree.Number 0)) (tree.Evaluate here
        (tree.Assign here kind.I32 (tree.InVariable 1) (tree.Number 0)) (tree.Loop here (Some (tree.Compare here
        rel.LessSigned false (tree.Variable here 1) (tree.Number 4))) (tree.Evaluate here (tree.Assign here kind.I32
        (tree.AtAddress true (tree.Binary here op.Add (tree.Address 2 0) (tree.Binary here op.Multiply (tree.Variable here
        1) (tree.Number 4)))) (tree.Binary here op.Add (tree.Read here kind.I32 true (tree.Binary here op.Add
        (tree.Address 0 0) (tree.Binary here op.Multiply (tree.Variable here 1) (tree.Number 4)))) (tree.Read here
        kind.I32 true (tree.Binary here op.Add (tree.Address 1 0) (tree.Binary here op.Multiply (tree.Variable here 1)
        (tree.Number 4)))))) tree.Done) (Some (tree.Step here kind.I32 (tree.InVariable 1) 1 false)) (tree.Evaluate here
        (tree.Assign here kind.I32 (tree.InVariable 1) (tree.Number 0)) (tree.Loop here (Some (tree.Compare here
        rel.LessSigned false (tree.Variable here 1) (tree.Number 4))) (tree.Print here (tree.expression_then (tree.Read
        here kind.I32 true (tree.Binary here op.Add (tree.Address 2 0) (tree.Binary here op.Multiply (tree.Variable here
        1) (tree.Number 4)))) tree.no_expressions) (piece.Word spell.Signed 0 ∷ piece.Byte 10 ∷ []) tree.Done) (Some
        (tree.Step here kind.I32 (tree.InVariable 1) 1 false)) (tree.Evaluate here (tree.Exit here (tree.Number 0))
        tree.Done))))));
  }

  function : ℕ → Function
  function f = f0

sum_of_arrays_lawful : (is_lawful_body 128 2 (slice_get (0 ∷ [])) false (let p = sum_of_arrays in p.function 0) && true) ≡ true
sum_of_arrays_lawful = refl

abbrev sum_of_arrays_data : List ℕ
sum_of_arrays_data = (1 ∷ 0 ∷ 0 ∷ 0 ∷ 2 ∷ 0 ∷ 0 ∷ 0 ∷ 3 ∷ 0 ∷ 0 ∷ 0 ∷ 4 ∷ 0 ∷ 0 ∷ 0 ∷ 10 ∷ 0 ∷ 0 ∷ 0 ∷ 20 ∷ 0 ∷ 0 ∷ 0 ∷ 30 ∷ 0 ∷ 0 ∷ 0 ∷ 40
    ∷ 0 ∷ 0 ∷ 0 ∷ 0 ∷ 0 ∷ 0 ∷ 0 ∷ 0 ∷ 0 ∷ 0 ∷ 0 ∷ 0 ∷ 0 ∷ 0 ∷ 0 ∷ 0 ∷ 0 ∷ 0 ∷ 0 ∷ 37 ∷ 100 ∷ 10 ∷ 0 ∷ [])

sum_of_arrays_runs :
    seen 51 (run sum_of_arrays 100000 0 (start 128 68 sum_of_arrays_data)) ≡
    record {
      end = Halted 0;
      printed = (((((((([] ++ spelled spell.Signed 11) ++ (10 ∷ [])) ++ spelled spell.Signed 22) ++
          (10 ∷ [])) ++ spelled spell.Signed 33) ++ (10 ∷ [])) ++ spelled spell.Signed 44) ++ (10 ∷ []));
      reads = 12;
      writes =
          4;
      bytes = (1 ∷ 0 ∷ 0 ∷ 0 ∷ 2 ∷ 0 ∷ 0 ∷ 0 ∷ 3 ∷ 0 ∷ 0 ∷ 0 ∷ 4 ∷ 0 ∷ 0 ∷ 0 ∷ 10 ∷ 0 ∷ 0 ∷ 0 ∷ 20 ∷ 0 ∷ 0 ∷ 0 ∷ 30 ∷ 0 ∷
          0 ∷ 0 ∷ 40 ∷ 0 ∷ 0 ∷ 0 ∷ 11 ∷ 0 ∷ 0 ∷ 0 ∷ 22 ∷ 0 ∷ 0 ∷ 0 ∷ 33 ∷ 0 ∷ 0 ∷ 0 ∷ 44 ∷ 0 ∷ 0 ∷ 0 ∷ 37 ∷ 100 ∷ 10 ∷ []);
      rest_is_zero = true;
    }
unfolding compared misplaced combined spelled most_bytes
sum_of_arrays_runs = refl

sum_of_arrays_reads : (nat_eq (wanted_reads sum_of_arrays (among ((1 ∷ []) ∷ [])) 0) 0 && true) ≡ true
sum_of_arrays_reads = refl

sum_of_arrays_tests : (nat_eq (open_tests sum_of_arrays (among ((1 ∷ []) ∷ [])) 0) 2 && true) ≡ true
sum_of_arrays_tests = refl

-- #include <stdio.h>
-- int x[5];int main(void){int i;for(i=0;i<4;i++);x[i]=7;printf("%d\n",x[4]);return 0;}
abbrev empty_loop : Program
empty_loop = record { limit = 100; function = function } where
  addresses : ℕ → ℕ
  addresses k = slice_index (16 ∷ 36 ∷ []) k

  f0 : Function
  f0 = record {
    address = addresses;
    callee = λ g. g;
    parameters = [];
    frame = 0;
    body = (tree.Evaluate here (tree.Assign here kind.I32 (tree.InVariable 1) (tree.Number 0)) (tree.Evaluate here
        (tree.Assign here kind.I32 (tree.InVariable 1) (tree.Number 0)) (tree.Loop here (Some (tree.Compare here
        rel.LessSigned false (tree.Variable here 1) (tree.Number 4))) tree.Done (Some (tree.Step here kind.I32
        (tree.InVariable 1) 1 false)) (tree.Evaluate here (tree.Assign here kind.I32 (tree.AtAddress true (tree.Binary
        here op.Add (tree.Address 0 0) (tree.Binary here op.Multiply (tree.Variable here 1) (tree.Number 4))))
        (tree.Number 7)) (tree.Print here (tree.expression_then (tree.Read here kind.I32 true (tree.Address 0 16))
        tree.no_expressions) (piece.Word spell.Signed 0 ∷ piece.Byte 10 ∷ []) (tree.Evaluate here (tree.Exit here
        (tree.Number 0)) tree.Done))))));
  }

  function : ℕ → Function
  function f = f0

empty_loop_lawful : (is_lawful_body 128 2 (slice_get (0 ∷ [])) false (let p = empty_loop in p.function 0) && true) ≡ true
empty_loop_lawful = refl

abbrev empty_loop_data : List ℕ
empty_loop_data = (0 ∷ 0 ∷ 0 ∷ 0 ∷ 0 ∷ 0 ∷ 0 ∷ 0 ∷ 0 ∷ 0 ∷ 0 ∷ 0 ∷ 0 ∷ 0 ∷ 0 ∷ 0 ∷ 0 ∷ 0 ∷ 0 ∷ 0 ∷ 37 ∷ 100 ∷ 10 ∷ 0 ∷ [])

empty_loop_runs :
    seen 23 (run empty_loop 100000 0 (start 128 40 empty_loop_data)) ≡
    record {
      end = Halted 0;
      printed = (([] ++ spelled spell.Signed 7) ++ (10 ∷ []));
      reads = 1;
      writes = 1;
      bytes = (0 ∷
          0 ∷ 0 ∷ 0 ∷ 0 ∷ 0 ∷ 0 ∷ 0 ∷ 0 ∷ 0 ∷ 0 ∷ 0 ∷ 0 ∷ 0 ∷ 0 ∷ 0 ∷ 7 ∷ 0 ∷ 0 ∷ 0 ∷ 37 ∷ 100 ∷ 10 ∷ []);
      rest_is_zero = true;
    }
unfolding compared misplaced combined spelled most_bytes
empty_loop_runs = refl

empty_loop_reads : (nat_eq (wanted_reads empty_loop (among ((1 ∷ []) ∷ [])) 0) 0 && true) ≡ true
empty_loop_reads = refl

empty_loop_tests : (nat_eq (open_tests empty_loop (among ((1 ∷ []) ∷ [])) 0) 1 && true) ≡ true
empty_loop_tests = refl

-- #include <stdio.h>
-- typedef int num;int main(void){num i;int s=0;for(i=0;i<5;i++)switch(i){case 1:s+=10;case 2:s+=100;break;case 4:s+=1;break;default:s+=1000;}printf("%d\n",s);return 0;}
abbrev switch_falls : Program
switch_falls = record { limit = 100; function = function } where
  addresses : ℕ → ℕ
  addresses k = slice_index (16 ∷ []) k

  f0 : Function
  f0 = record {
    address = addresses;
    callee = λ g. g;
    parameters = [];
    frame = 0;
    body = (tree.Evaluate here (tree.Assign here kind.I32 (tree.InVariable 1) (tree.Number 0)) (tree.Evaluate here
        (tree.Assign here kind.I32 (tree.InVariable 2) (tree.Number 0)) (tree.Evaluate here (tree.Assign here kind.I32
        (tree.InVariable 1) (tree.Number 0)) (tree.Loop here (Some (tree.Compare here rel.LessSigned false (tree.Variable
        here 1) (tree.Number 5))) (tree.Switch here (tree.Variable here 1) (tree.arm_then ((Some 1) ∷ []) (tree.Evaluate
        here (tree.Update here kind.I32 (tree.InVariable 2) op.Add (tree.Number 10)) tree.Done) (tree.arm_then ((Some 2) ∷
        []) (tree.Evaluate here (tree.Update here kind.I32 (tree.InVariable 2) op.Add (tree.Number 100)) (tree.Break here
        tree.Done)) (tree.arm_then ((Some 4) ∷ []) (tree.Evaluate here (tree.Update here kind.I32 (tree.InVariable 2)
        op.Add (tree.Number 1)) (tree.Break here tree.Done)) (tree.arm_then (None ∷ []) (tree.Evaluate here (tree.Update
        here kind.I32 (tree.InVariable 2) op.Add (tree.Number 1000)) tree.Done) tree.no_arms)))) tree.Done) (Some
        (tree.Step here kind.I32 (tree.InVariable 1) 1 false)) (tree.Print here (tree.expression_then (tree.Variable here
        2) tree.no_expressions) (piece.Word spell.Signed 0 ∷ piece.Byte 10 ∷ []) (tree.Evaluate here (tree.Exit here
        (tree.Number 0)) tree.Done))))));
  }

  function : ℕ → Function
  function f = f0

switch_falls_lawful : (is_lawful_body 128 3 (slice_get (0 ∷ [])) false (let p = switch_falls in p.function 0) && true) ≡ true
switch_falls_lawful = refl

abbrev switch_falls_data : List ℕ
switch_falls_data = (37 ∷ 100 ∷ 10 ∷ 0 ∷ [])

switch_falls_runs :
    seen 3 (run switch_falls 100000 0 (start 128 20 switch_falls_data)) ≡
    record {
      end = Halted 0;
      printed = (([] ++ spelled spell.Signed 2211) ++ (10 ∷ []));
      reads = 0;
      writes = 0;
      bytes =
          (37 ∷ 100 ∷ 10 ∷ []);
      rest_is_zero = true;
    }
unfolding compared misplaced combined spelled most_bytes
switch_falls_runs = refl

switch_falls_reads : (nat_eq (wanted_reads switch_falls (among ([] ∷ [])) 0) 0 && true) ≡ true
switch_falls_reads = refl

switch_falls_tests : (nat_eq (open_tests switch_falls (among ([] ∷ [])) 0) 0 && true) ≡ true
switch_falls_tests = refl

-- #include <stdio.h>
-- int main(void){int i;int s=0;for(i=0;i<4;i++){switch(i&1){case 0:continue;}s+=i;}printf("%d\n",s);return 0;}
abbrev switch_continues : Program
switch_continues = record { limit = 100; function = function } where
  addresses : ℕ → ℕ
  addresses k = slice_index (16 ∷ []) k

  f0 : Function
  f0 = record {
    address = addresses;
    callee = λ g. g;
    parameters = [];
    frame = 0;
    body = (tree.Evaluate here (tree.Assign here kind.I32 (tree.InVariable 1) (tree.Number 0)) (tree.Evaluate here
        (tree.Assign here kind.I32 (tree.InVariable 2) (tree.Number 0)) (tree.Evaluate here (tree.Assign here kind.I32
        (tree.InVariable 1) (tree.Number 0)) (tree.Loop here (Some (tree.Compare here rel.LessSigned false (tree.Variable
        here 1) (tree.Number 4))) (tree.Switch here (tree.Binary here op.And (tree.Variable here 1) (tree.Number 1))
        (tree.arm_then ((Some 0) ∷ []) (tree.Continue here tree.Done) tree.no_arms) (tree.Evaluate here (tree.Update here
        kind.I32 (tree.InVariable 2) op.Add (tree.Variable here 1)) tree.Done)) (Some (tree.Step here kind.I32
        (tree.InVariable 1) 1 false)) (tree.Print here (tree.expression_then (tree.Variable here 2) tree.no_expressions)
        (piece.Word spell.Signed 0 ∷ piece.Byte 10 ∷ []) (tree.Evaluate here (tree.Exit here (tree.Number 0))
        tree.Done))))));
  }

  function : ℕ → Function
  function f = f0

switch_continues_lawful : (is_lawful_body 128 3 (slice_get (0 ∷ [])) false (let p = switch_continues in p.function 0) && true) ≡ true
switch_continues_lawful = refl

abbrev switch_continues_data : List ℕ
switch_continues_data = (37 ∷ 100 ∷ 10 ∷ 0 ∷ [])

switch_continues_runs :
    seen 3 (run switch_continues 100000 0 (start 128 20 switch_continues_data)) ≡
    record {
      end = Halted 0;
      printed = (([] ++ spelled spell.Signed 4) ++ (10 ∷ []));
      reads = 0;
      writes = 0;
      bytes = (37 ∷
          100 ∷ 10 ∷ []);
      rest_is_zero = true;
    }
unfolding compared misplaced combined spelled most_bytes
switch_continues_runs = refl

switch_continues_reads : (nat_eq (wanted_reads switch_continues (among ([] ∷ [])) 0) 0 && true) ≡ true
switch_continues_reads = refl

switch_continues_tests : (nat_eq (open_tests switch_continues (among ([] ∷ [])) 0) 0 && true) ≡ true
switch_continues_tests = refl

-- int main(void){int n=0;switch(n++){}switch(3){case 1:n=9;}switch(n){default:;}return n;}
abbrev switch_empty : Program
switch_empty = record { limit = 100; function = function } where
  addresses : ℕ → ℕ
  addresses k = slice_index [] k

  f0 : Function
  f0 = record {
    address = addresses;
    callee = λ g. g;
    parameters = [];
    frame = 0;
    body = (tree.Evaluate here (tree.Assign here kind.I32 (tree.InVariable 1) (tree.Number 0)) (tree.Switch here (tree.Step
        here kind.I32 (tree.InVariable 1) 1 false) tree.no_arms (tree.Switch here (tree.Number 3) (tree.arm_then ((Some 1)
        ∷ []) (tree.Evaluate here (tree.Assign here kind.I32 (tree.InVariable 1) (tree.Number 9)) tree.Done) tree.no_arms)
        (tree.Switch here (tree.Variable here 1) (tree.arm_then (None ∷ []) tree.Done tree.no_arms) (tree.Evaluate here
        (tree.Exit here (tree.Variable here 1)) tree.Done)))));
  }

  function : ℕ → Function
  function f = f0

switch_empty_lawful : (is_lawful_body 128 2 (slice_get (0 ∷ [])) false (let p = switch_empty in p.function 0) && true) ≡ true
switch_empty_lawful = refl

abbrev switch_empty_data : List ℕ
switch_empty_data = []

switch_empty_runs :
    seen 0 (run switch_empty 100000 0 (start 128 16 switch_empty_data)) ≡
    record { end = Halted 1; printed = []; reads = 0; writes = 0; bytes = []; rest_is_zero = true }
unfolding compared misplaced combined spelled most_bytes
switch_empty_runs = refl

switch_empty_works : nat_le (work_of (run switch_empty 100000 0 (start 128 16 switch_empty_data))) 51 ≡ true
unfolding compared misplaced combined spelled most_bytes
switch_empty_works = refl

switch_empty_reads : (nat_eq (wanted_reads switch_empty (among ([] ∷ [])) 0) 0 && true) ≡ true
switch_empty_reads = refl

switch_empty_tests : (nat_eq (open_tests switch_empty (among ([] ∷ [])) 0) 1 && true) ≡ true
switch_empty_tests = refl

-- #include <stdio.h>
-- int main(void){int i,j;for(i=0;i<4;i++){switch(i){for(;;)putchar('!');case 3:case 1:for(j=0;j<3;j++){switch(j){case 1:continue;default:putchar('0'+j);}if(j==2)break;}if(i==1)continue;putchar('m');break;case 0:switch(i+5){case 5:putchar('n');continue;}putchar('?');default:putchar('d');}putchar(';');}return 0;}
abbrev switch_nested : Program
switch_nested = record { limit = 100; function = function } where
  addresses : ℕ → ℕ
  addresses k = slice_index [] k

  f0 : Function
  f0 = record {
    address = addresses;
    callee = λ g. g;
    parameters = [];
    frame = 0;
    body = (tree.Evaluate here (tree.Assign here kind.I32 (tree.InVariable 1) (tree.Number 0)) (tree.Evaluate here
        (tree.Assign here kind.I32 (tree.InVariable 2) (tree.Number 0)) (tree.Evaluate here (tree.Assign here kind.I32
        (tree.InVariable 1) (tree.Number 0)) (tree.Loop here (Some (tree.Compare here rel.LessSigned false (tree.Variable
        here 1) (tree.Number 4))) (tree.Switch here (tree.Variable here 1) (tree.arm_then [] (tree.Loop here None
        (tree.Evaluate here (tree.Putchar here (tree.Number 33)) tree.Done) None tree.Done) (tree.arm_then ((Some 3) ∷
        (Some 1) ∷ []) (tree.Evaluate here (tree.Assign here kind.I32 (tree.InVariable 2) (tree.Number 0)) (tree.Loop here
        (Some (tree.Compare here rel.LessSigned false (tree.Variable here 2) (tree.Number 3))) (tree.Switch here
        (tree.Variable here 2) (tree.arm_then ((Some 1) ∷ []) (tree.Continue here tree.Done) (tree.arm_then (None ∷ [])
        (tree.Evaluate here (tree.Putchar here (tree.Binary here op.Add (tree.Number 48) (tree.Variable here 2)))
        tree.Done) tree.no_arms)) (tree.If here (tree.Compare here rel.Equal false (tree.Variable here 2) (tree.Number 2))
        (tree.Break here tree.Done) tree.Done tree.Done)) (Some (tree.Step here kind.I32 (tree.InVariable 2) 1 false))
        (tree.If here (tree.Compare here rel.Equal false (tree.Variable here 1) (tree.Number 1)) (tree.Continue here
        tree.Done) tree.Done (tree.Evaluate here (tree.Putchar here (tree.Number 109)) (tree.Break here tree.Done)))))
        (tree.arm_then ((Some 0) ∷ []) (tree.Switch here (tree.Binary here op.Add (tree.Variable here 1) (tree.Number 5))
        (tree.arm_then ((Some 5) ∷ []) (tree.Evaluate here (tree.Putchar here (tree.Number 110)) (tree.Continue here
        tree.Done)) tree.no_arms) (tree.Evaluate here (tree.Putchar here (tree.Number 63)) tree.Done)) (tree.arm_then
        (None ∷ []) (tree.Evaluate here (tree.Putchar here (tree.Number 100)) tree.Done) tree.no_arms)))) (tree.Evaluate
        here (tree.Putchar here (tree.Number 59)) tree.Done)) (Some (tree.Step here kind.I32 (tree.InVariable 1) 1 false))
        (tree.Evaluate here (tree.Exit here (tree.Number 0)) tree.Done)))));
  }

  function : ℕ → Function
  function f = f0

switch_nested_lawful : (is_lawful_body 128 3 (slice_get (0 ∷ [])) false (let p = switch_nested in p.function 0) && true) ≡ true
switch_nested_lawful = refl

abbrev switch_nested_data : List ℕ
switch_nested_data = []

switch_nested_runs :
    seen 0 (run switch_nested 100000 0 (start 128 16 switch_nested_data)) ≡
    record {
      end = Halted 0;
      printed = ((((((((([] ++ spelled spell.Byte 110) ++ spelled spell.Byte 48) ++ spelled
          spell.Byte 50) ++ spelled spell.Byte 100) ++ spelled spell.Byte 59) ++ spelled spell.Byte 48) ++ spelled spell.Byte
          50) ++ spelled spell.Byte 109) ++ spelled spell.Byte 59);
      reads = 0;
      writes = 0;
      bytes = [];
      rest_is_zero = true;
    }
unfolding compared misplaced combined spelled most_bytes
switch_nested_runs = refl

switch_nested_works : nat_le (work_of (run switch_nested 100000 0 (start 128 16 switch_nested_data))) 711 ≡ true
unfolding compared misplaced combined spelled most_bytes
switch_nested_works = refl

switch_nested_reads : (nat_eq (wanted_reads switch_nested (among ([] ∷ [])) 0) 0 && true) ≡ true
switch_nested_reads = refl

switch_nested_tests : (nat_eq (open_tests switch_nested (among ([] ∷ [])) 0) 0 && true) ≡ true
switch_nested_tests = refl

-- #include <stdio.h>
-- int f(unsigned x){int r=0;switch(x){case 4294967295u:r+=1;break;default:r+=2;case 7:r+=4;break;case 8:r+=8;}return r;}int main(void){printf("%d%d%d%d",f(-1),f(7),f(8),f(3));return 0;}
abbrev switch_default_middle : Program
switch_default_middle = record { limit = 100; function = function } where
  addresses : ℕ → ℕ
  addresses k = slice_index (16 ∷ []) k

  f0 : Function
  f0 = record {
    address = addresses;
    callee = λ g. g;
    parameters = (None ∷ []);
    frame = 0;
    body = (tree.Evaluate here (tree.Assign here kind.I32 (tree.InVariable 2) (tree.Number 0)) (tree.Switch here
        (tree.Variable here 1) (tree.arm_then ((Some 4294967295) ∷ []) (tree.Evaluate here (tree.Update here kind.I32
        (tree.InVariable 2) op.Add (tree.Number 1)) (tree.Break here tree.Done)) (tree.arm_then (None ∷ []) (tree.Evaluate
        here (tree.Update here kind.I32 (tree.InVariable 2) op.Add (tree.Number 2)) tree.Done) (tree.arm_then ((Some 7) ∷
        []) (tree.Evaluate here (tree.Update here kind.I32 (tree.InVariable 2) op.Add (tree.Number 4)) (tree.Break here
        tree.Done)) (tree.arm_then ((Some 8) ∷ []) (tree.Evaluate here (tree.Update here kind.I32 (tree.InVariable 2)
        op.Add (tree.Number 8)) tree.Done) tree.no_arms)))) (tree.Return here (Some (tree.Variable here 2)) tree.Done)));
  }

  f1 : Function
  f1 = record {
    address = addresses;
    callee = λ g. g;
    parameters = [];
    frame = 0;
    body = (tree.Print here (tree.expression_then (tree.Call here 0 (tree.expression_then (tree.Number 4294967295)
        tree.no_expressions)) (tree.expression_then (tree.Call here 0 (tree.expression_then (tree.Number 7)
        tree.no_expressions)) (tree.expression_then (tree.Call here 0 (tree.expression_then (tree.Number 8)
        tree.no_expressions)) (tree.expression_then (tree.Call here 0 (tree.expression_then (tree.Number 3)
        tree.no_expressions)) tree.no_expressions)))) (piece.Word spell.Signed 0 ∷ piece.Word spell.Signed 1 ∷ piece.Word
        spell.Signed 2 ∷ piece.Word spell.Signed 3 ∷ []) (tree.Evaluate here (tree.Exit here (tree.Number 0)) tree.Done));
  }

  function : ℕ → Function
  function f = (if nat_eq f 0 then f0 else f1)

switch_default_middle_lawful : (is_lawful_body 128 3 (slice_get (1 ∷ 0 ∷ [])) true (let p = switch_default_middle in p.function 0) && (is_lawful_body 128 1 (slice_get (1 ∷ 0 ∷ [])) false (let p = switch_default_middle in p.function 1) && true)) ≡ true
switch_default_middle_lawful = refl

abbrev switch_default_middle_data : List ℕ
switch_default_middle_data = (37 ∷ 100 ∷ 37 ∷ 100 ∷ 37 ∷ 100 ∷ 37 ∷ 100 ∷ 0 ∷ [])

switch_default_middle_runs :
    seen 8 (run switch_default_middle 100000 1 (start 128 28 switch_default_middle_data)) ≡
    record {
      end = Halted 0;
      printed = (((([] ++ spelled spell.Signed 1) ++ spelled spell.Signed 4) ++ spelled
          spell.Signed 8) ++ spelled spell.Signed 6);
      reads = 0;
      writes = 0;
      bytes = (37 ∷ 100 ∷ 37 ∷ 100 ∷ 37 ∷ 100 ∷ 37 ∷ 100
          ∷ []);
      rest_is_zero = true;
    }
unfolding compared misplaced combined spelled most_bytes
switch_default_middle_runs = refl

switch_default_middle_reads : (nat_eq (wanted_reads switch_default_middle (among ([] ∷ [] ∷ [])) 0) 0 && (nat_eq (wanted_reads switch_default_middle
    (among ([] ∷ [] ∷ [])) 1) 0 && true)) ≡ true
switch_default_middle_reads = refl

switch_default_middle_tests : (nat_eq (open_tests switch_default_middle (among ([] ∷ [] ∷ [])) 0) 0 && (nat_eq (open_tests switch_default_middle
    (among ([] ∷ [] ∷ [])) 1) 0 && true)) ≡ true
switch_default_middle_tests = refl

-- #include <stdio.h>
-- int f(int x){switch(x){putchar(33);case -1:return 1;case 1:case 2:{int k=x*2;switch(k){case 2:break;default:return 4;}return 5;}}return 0;}int main(void){signed char c=-1;printf("%d%d%d%d",f(c),f(1),f(2),f(9));return 0;}
abbrev switch_signed : Program
switch_signed = record { limit = 100; function = function } where
  addresses : ℕ → ℕ
  addresses k = slice_index (16 ∷ []) k

  f0 : Function
  f0 = record {
    address = addresses;
    callee = λ g. g;
    parameters = (None ∷ []);
    frame = 0;
    body = (tree.Switch here (tree.Variable here 1) (tree.arm_then [] (tree.Evaluate here (tree.Putchar here (tree.Number
        33)) tree.Done) (tree.arm_then ((Some 4294967295) ∷ []) (tree.Return here (Some (tree.Number 1)) tree.Done)
        (tree.arm_then ((Some 1) ∷ (Some 2) ∷ []) (tree.Evaluate here (tree.Assign here kind.I32 (tree.InVariable 2)
        (tree.Binary here op.Multiply (tree.Variable here 1) (tree.Number 2))) (tree.Switch here (tree.Variable here 2)
        (tree.arm_then ((Some 2) ∷ []) (tree.Break here tree.Done) (tree.arm_then (None ∷ []) (tree.Return here (Some
        (tree.Number 4)) tree.Done) tree.no_arms)) (tree.Return here (Some (tree.Number 5)) tree.Done))) tree.no_arms)))
        (tree.Return here (Some (tree.Number 0)) tree.Done));
  }

  f1 : Function
  f1 = record {
    address = addresses;
    callee = λ g. g;
    parameters = [];
    frame = 0;
    body = (tree.Evaluate here (tree.Assign here kind.I8 (tree.InVariable 1) (tree.Number 4294967295)) (tree.Print here
        (tree.expression_then (tree.Call here 0 (tree.expression_then (tree.Variable here 1) tree.no_expressions))
        (tree.expression_then (tree.Call here 0 (tree.expression_then (tree.Number 1) tree.no_expressions))
        (tree.expression_then (tree.Call here 0 (tree.expression_then (tree.Number 2) tree.no_expressions))
        (tree.expression_then (tree.Call here 0 (tree.expression_then (tree.Number 9) tree.no_expressions))
        tree.no_expressions)))) (piece.Word spell.Signed 0 ∷ piece.Word spell.Signed 1 ∷ piece.Word spell.Signed 2 ∷
        piece.Word spell.Signed 3 ∷ []) (tree.Evaluate here (tree.Exit here (tree.Number 0)) tree.Done)));
  }

  function : ℕ → Function
  function f = (if nat_eq f 0 then f0 else f1)

switch_signed_lawful : (is_lawful_body 128 3 (slice_get (1 ∷ 0 ∷ [])) true (let p = switch_signed in p.function 0) && (is_lawful_body 128 2 (slice_get (1 ∷ 0 ∷ [])) false (let p = switch_signed in p.function 1) && true)) ≡ true
switch_signed_lawful = refl

abbrev switch_signed_data : List ℕ
switch_signed_data = (37 ∷ 100 ∷ 37 ∷ 100 ∷ 37 ∷ 100 ∷ 37 ∷ 100 ∷ 0 ∷ [])

switch_signed_runs :
    seen 8 (run switch_signed 100000 1 (start 128 28 switch_signed_data)) ≡
    record {
      end = Halted 0;
      printed = (((([] ++ spelled spell.Signed 1) ++ spelled spell.Signed 5) ++ spelled
          spell.Signed 4) ++ spelled spell.Signed 0);
      reads = 0;
      writes = 0;
      bytes = (37 ∷ 100 ∷ 37 ∷ 100 ∷ 37 ∷ 100 ∷ 37 ∷ 100
          ∷ []);
      rest_is_zero = true;
    }
unfolding compared misplaced combined spelled most_bytes
switch_signed_runs = refl

switch_signed_reads : (nat_eq (wanted_reads switch_signed (among ([] ∷ [] ∷ [])) 0) 0 && (nat_eq (wanted_reads switch_signed (among ([] ∷ []
    ∷ [])) 1) 0 && true)) ≡ true
switch_signed_reads = refl

switch_signed_tests : (nat_eq (open_tests switch_signed (among ([] ∷ [] ∷ [])) 0) 0 && (nat_eq (open_tests switch_signed (among ([] ∷ [] ∷
    [])) 1) 0 && true)) ≡ true
switch_signed_tests = refl

-- #include <stdio.h>
-- int main(void){int i=0;do{if(i==2)continue;putchar(48+i);switch(i){case 3:continue;case 1:break;}putchar(45);}while(++i<5);return i;}
abbrev do_continues : Program
do_continues = record { limit = 100; function = function } where
  addresses : ℕ → ℕ
  addresses k = slice_index [] k

  f0 : Function
  f0 = record {
    address = addresses;
    callee = λ g. g;
    parameters = [];
    frame = 0;
    body = (tree.Evaluate here (tree.Assign here kind.I32 (tree.InVariable 1) (tree.Number 0)) (tree.Do here (tree.If here
        (tree.Compare here rel.Equal false (tree.Variable here 1) (tree.Number 2)) (tree.Continue here tree.Done)
        tree.Done (tree.Evaluate here (tree.Putchar here (tree.Binary here op.Add (tree.Number 48) (tree.Variable here
        1))) (tree.Switch here (tree.Variable here 1) (tree.arm_then ((Some 3) ∷ []) (tree.Continue here tree.Done)
        (tree.arm_then ((Some 1) ∷ []) (tree.Break here tree.Done) tree.no_arms)) (tree.Evaluate here (tree.Putchar here
        (tree.Number 45)) tree.Done)))) (tree.Compare here rel.LessSigned false (tree.Step here kind.I32 (tree.InVariable
        1) 1 true) (tree.Number 5)) (tree.Evaluate here (tree.Exit here (tree.Variable here 1)) tree.Done)));
  }

  function : ℕ → Function
  function f = f0

do_continues_lawful : (is_lawful_body 128 2 (slice_get (0 ∷ [])) false (let p = do_continues in p.function 0) && true) ≡ true
do_continues_lawful = refl

abbrev do_continues_data : List ℕ
do_continues_data = []

do_continues_runs :
    seen 0 (run do_continues 100000 0 (start 128 16 do_continues_data)) ≡
    record {
      end = Halted 5;
      printed = ((((((([] ++ spelled spell.Byte 48) ++ spelled spell.Byte 45) ++ spelled spell.Byte
          49) ++ spelled spell.Byte 45) ++ spelled spell.Byte 51) ++ spelled spell.Byte 52) ++ spelled spell.Byte 45);
      reads =
          0;
      writes = 0;
      bytes = [];
      rest_is_zero = true;
    }
unfolding compared misplaced combined spelled most_bytes
do_continues_runs = refl

do_continues_works : nat_le (work_of (run do_continues 100000 0 (start 128 16 do_continues_data))) 363 ≡ true
unfolding compared misplaced combined spelled most_bytes
do_continues_works = refl

do_continues_reads : (nat_eq (wanted_reads do_continues (among ([] ∷ [])) 0) 0 && true) ≡ true
do_continues_reads = refl

do_continues_tests : (nat_eq (open_tests do_continues (among ([] ∷ [])) 0) 0 && true) ≡ true
do_continues_tests = refl

-- #include <stdio.h>
-- int main(void){int i;int s=0;for(i=0;i<6;i+=1){if(i%2)continue;while(1){if(s>20)break;s+=i+1;break;}s*=2;}for(;;){if(s<50)break;s-=9;}return s;}
abbrev for_continues : Program
for_continues = record { limit = 100; function = function } where
  addresses : ℕ → ℕ
  addresses k = slice_index [] k

  f0 : Function
  f0 = record {
    address = addresses;
    callee = λ g. g;
    parameters = [];
    frame = 0;
    body = (tree.Evaluate here (tree.Assign here kind.I32 (tree.InVariable 1) (tree.Number 0)) (tree.Evaluate here
        (tree.Assign here kind.I32 (tree.InVariable 2) (tree.Number 0)) (tree.Evaluate here (tree.Assign here kind.I32
        (tree.InVariable 1) (tree.Number 0)) (tree.Loop here (Some (tree.Compare here rel.LessSigned false (tree.Variable
        here 1) (tree.Number 6))) (tree.If here (tree.Binary here op.RemainderSigned (tree.Variable here 1) (tree.Number
        2)) (tree.Continue here tree.Done) tree.Done (tree.Loop here (Some (tree.Number 1)) (tree.If here (tree.Compare
        here rel.LessSigned true (tree.Variable here 2) (tree.Number 20)) (tree.Break here tree.Done) tree.Done
        (tree.Evaluate here (tree.Update here kind.I32 (tree.InVariable 2) op.Add (tree.Binary here op.Add (tree.Variable
        here 1) (tree.Number 1))) (tree.Break here tree.Done))) None (tree.Evaluate here (tree.Update here kind.I32
        (tree.InVariable 2) op.Multiply (tree.Number 2)) tree.Done))) (Some (tree.Update here kind.I32 (tree.InVariable 1)
        op.Add (tree.Number 1))) (tree.Loop here None (tree.If here (tree.Compare here rel.LessSigned false (tree.Variable
        here 2) (tree.Number 50)) (tree.Break here tree.Done) tree.Done (tree.Evaluate here (tree.Update here kind.I32
        (tree.InVariable 2) op.Subtract (tree.Number 9)) tree.Done)) None (tree.Evaluate here (tree.Exit here
        (tree.Variable here 2)) tree.Done))))));
  }

  function : ℕ → Function
  function f = f0

for_continues_lawful : (is_lawful_body 128 3 (slice_get (0 ∷ [])) false (let p = for_continues in p.function 0) && true) ≡ true
for_continues_lawful = refl

abbrev for_continues_data : List ℕ
for_continues_data = []

for_continues_runs :
    seen 0 (run for_continues 100000 0 (start 128 16 for_continues_data)) ≡
    record { end = Halted 30; printed = []; reads = 0; writes = 0; bytes = []; rest_is_zero = true }
unfolding compared misplaced combined spelled most_bytes
for_continues_runs = refl

for_continues_works : nat_le (work_of (run for_continues 100000 0 (start 128 16 for_continues_data))) 462 ≡ true
unfolding compared misplaced combined spelled most_bytes
for_continues_works = refl

for_continues_reads : (nat_eq (wanted_reads for_continues (among ([] ∷ [])) 0) 0 && true) ≡ true
for_continues_reads = refl

for_continues_tests : (nat_eq (open_tests for_continues (among ([] ∷ [])) 0) 1 && true) ≡ true
for_continues_tests = refl

-- int f(int n){int i;for(i=0;;i++){while(i>3){do{if(i==n)return i*10;}while(0);break;}switch(i){case 9:return 1;}}}int g(int n){while(n)return;return;}int main(void){return f(6)+f(3)+g(1);}
abbrev returns_from_loops : Program
returns_from_loops = record { limit = 100; function = function } where
  addresses : ℕ → ℕ
  addresses k = slice_index [] k

  f0 : Function
  f0 = record {
    address = addresses;
    callee = λ g. g;
    parameters = (None ∷ []);
    frame = 0;
    body = (tree.Evaluate here (tree.Assign here kind.I32 (tree.InVariable 2) (tree.Number 0)) (tree.Evaluate here
        (tree.Assign here kind.I32 (tree.InVariable 2) (tree.Number 0)) (tree.Loop here None (tree.Loop here (Some
        (tree.Compare here rel.LessSigned true (tree.Variable here 2) (tree.Number 3))) (tree.Do here (tree.If here
        (tree.Compare here rel.Equal false (tree.Variable here 2) (tree.Variable here 1)) (tree.Return here (Some
        (tree.Binary here op.Multiply (tree.Variable here 2) (tree.Number 10))) tree.Done) tree.Done tree.Done)
        (tree.Number 0) (tree.Break here tree.Done)) None (tree.Switch here (tree.Variable here 2) (tree.arm_then ((Some
        9) ∷ []) (tree.Return here (Some (tree.Number 1)) tree.Done) tree.no_arms) tree.Done)) (Some (tree.Step here
        kind.I32 (tree.InVariable 2) 1 false)) tree.Done)));
  }

  f1 : Function
  f1 = record {
    address = addresses;
    callee = λ g. g;
    parameters = (None ∷ []);
    frame = 0;
    body = (tree.Loop here (Some (tree.Variable here 1)) (tree.Return here None tree.Done) None (tree.Return here None
        tree.Done));
  }

  f2 : Function
  f2 = record {
    address = addresses;
    callee = λ g. g;
    parameters = [];
    frame = 0;
    body = (tree.Evaluate here (tree.Exit here (tree.Binary here op.Add (tree.Binary here op.Add (tree.Call here 0
        (tree.expression_then (tree.Number 6) tree.no_expressions)) (tree.Call here 0 (tree.expression_then (tree.Number
        3) tree.no_expressions))) (tree.Call here 1 (tree.expression_then (tree.Number 1) tree.no_expressions))))
        tree.Done);
  }

  function : ℕ → Function
  function f = (if nat_eq f 0 then f0 else (if nat_eq f 1 then f1 else f2))

returns_from_loops_lawful : (is_lawful_body 128 3 (slice_get (1 ∷ 1 ∷ 0 ∷ [])) true (let p = returns_from_loops in p.function 0) && (is_lawful_body 128 2 (slice_get (1 ∷ 1 ∷ 0 ∷ [])) true (let p = returns_from_loops in p.function 1) && (is_lawful_body 128 1 (slice_get (1 ∷ 1 ∷ 0 ∷ [])) false (let p = returns_from_loops in p.function 2) && true))) ≡ true
returns_from_loops_lawful = refl

abbrev returns_from_loops_data : List ℕ
returns_from_loops_data = []

returns_from_loops_runs :
    seen 0 (run returns_from_loops 100000 2 (start 128 16 returns_from_loops_data)) ≡
    record { end = Halted 61; printed = []; reads = 0; writes = 0; bytes = []; rest_is_zero = true }
unfolding compared misplaced combined spelled most_bytes
returns_from_loops_runs = refl

returns_from_loops_works : nat_le (work_of (run returns_from_loops 100000 2 (start 128 16 returns_from_loops_data))) 945 ≡ true
unfolding compared misplaced combined spelled most_bytes
returns_from_loops_works = refl

returns_from_loops_reads : (nat_eq (wanted_reads returns_from_loops (among ([] ∷ [] ∷ [] ∷ [])) 0) 0 && (nat_eq (wanted_reads returns_from_loops
    (among ([] ∷ [] ∷ [] ∷ [])) 1) 0 && (nat_eq (wanted_reads returns_from_loops (among ([] ∷ [] ∷ [] ∷ [])) 2) 0 &&
    true))) ≡ true
returns_from_loops_reads = refl

returns_from_loops_tests : (nat_eq (open_tests returns_from_loops (among ([] ∷ [] ∷ [] ∷ [])) 0) 1 && (nat_eq (open_tests returns_from_loops
    (among ([] ∷ [] ∷ [] ∷ [])) 1) 0 && (nat_eq (open_tests returns_from_loops (among ([] ∷ [] ∷ [] ∷ [])) 2) 0 && true))) ≡ true
returns_from_loops_tests = refl

-- int f(int k){int r=0;while(k--){int i;{int j;r+=i+j;j=5;}i=7;}return r;}int main(void){int x;return f(3)*10+x;}
abbrev scalars_begin_zero : Program
scalars_begin_zero = record { limit = 100; function = function } where
  addresses : ℕ → ℕ
  addresses k = slice_index [] k

  f0 : Function
  f0 = record {
    address = addresses;
    callee = λ g. g;
    parameters = (None ∷ []);
    frame = 0;
    body = (tree.Evaluate here (tree.Assign here kind.I32 (tree.InVariable 2) (tree.Number 0)) (tree.Loop here (Some
        (tree.Step here kind.I32 (tree.InVariable 1) 4294967295 false)) (tree.Evaluate here (tree.Assign here kind.I32
        (tree.InVariable 3) (tree.Number 0)) (tree.Evaluate here (tree.Assign here kind.I32 (tree.InVariable 4)
        (tree.Number 0)) (tree.Evaluate here (tree.Update here kind.I32 (tree.InVariable 2) op.Add (tree.Binary here
        op.Add (tree.Variable here 3) (tree.Variable here 4))) (tree.Evaluate here (tree.Assign here kind.I32
        (tree.InVariable 4) (tree.Number 5)) (tree.Evaluate here (tree.Assign here kind.I32 (tree.InVariable 3)
        (tree.Number 7)) tree.Done))))) None (tree.Return here (Some (tree.Variable here 2)) tree.Done)));
  }

  f1 : Function
  f1 = record {
    address = addresses;
    callee = λ g. g;
    parameters = [];
    frame = 0;
    body = (tree.Evaluate here (tree.Assign here kind.I32 (tree.InVariable 1) (tree.Number 0)) (tree.Evaluate here (tree.Exit
        here (tree.Binary here op.Add (tree.Binary here op.Multiply (tree.Call here 0 (tree.expression_then (tree.Number
        3) tree.no_expressions)) (tree.Number 10)) (tree.Variable here 1))) tree.Done));
  }

  function : ℕ → Function
  function f = (if nat_eq f 0 then f0 else f1)

scalars_begin_zero_lawful : (is_lawful_body 128 5 (slice_get (1 ∷ 0 ∷ [])) true (let p = scalars_begin_zero in p.function 0) && (is_lawful_body 128 2 (slice_get (1 ∷ 0 ∷ [])) false (let p = scalars_begin_zero in p.function 1) && true)) ≡ true
scalars_begin_zero_lawful = refl

abbrev scalars_begin_zero_data : List ℕ
scalars_begin_zero_data = []

scalars_begin_zero_runs :
    seen 0 (run scalars_begin_zero 100000 1 (start 128 16 scalars_begin_zero_data)) ≡
    record { end = Halted 0; printed = []; reads = 0; writes = 0; bytes = []; rest_is_zero = true }
unfolding compared misplaced combined spelled most_bytes
scalars_begin_zero_runs = refl

scalars_begin_zero_works : nat_le (work_of (run scalars_begin_zero 100000 1 (start 128 16 scalars_begin_zero_data))) 246 ≡ true
unfolding compared misplaced combined spelled most_bytes
scalars_begin_zero_works = refl

scalars_begin_zero_reads : (nat_eq (wanted_reads scalars_begin_zero (among ([] ∷ [] ∷ [])) 0) 0 && (nat_eq (wanted_reads scalars_begin_zero
    (among ([] ∷ [] ∷ [])) 1) 0 && true)) ≡ true
scalars_begin_zero_reads = refl

scalars_begin_zero_tests : (nat_eq (open_tests scalars_begin_zero (among ([] ∷ [] ∷ [])) 0) 0 && (nat_eq (open_tests scalars_begin_zero (among
    ([] ∷ [] ∷ [])) 1) 0 && true)) ≡ true
scalars_begin_zero_tests = refl

-- #include <stdio.h>
-- int main(void){while(1)putchar('x');return 0;}
abbrev endless_print : Program
endless_print = record { limit = 100; function = function } where
  addresses : ℕ → ℕ
  addresses k = slice_index [] k

  f0 : Function
  f0 = record {
    address = addresses;
    callee = λ g. g;
    parameters = [];
    frame = 0;
    body = (tree.Loop here (Some (tree.Number 1)) (tree.Evaluate here (tree.Putchar here (tree.Number 120)) tree.Done) None
        (tree.Evaluate here (tree.Exit here (tree.Number 0)) tree.Done));
  }

  function : ℕ → Function
  function f = f0

endless_print_lawful : (is_lawful_body 128 1 (slice_get (0 ∷ [])) false (let p = endless_print in p.function 0) && true) ≡ true
endless_print_lawful = refl

abbrev endless_print_data : List ℕ
endless_print_data = []

endless_print_runs :
    seen 0 (run endless_print 3 0 (start 128 16 endless_print_data)) ≡
    record {
      end = Going;
      printed = ((([] ++ spelled spell.Byte 120) ++ spelled spell.Byte 120) ++ spelled spell.Byte
          120);
      reads = 0;
      writes = 0;
      bytes = [];
      rest_is_zero = true;
    }
unfolding compared misplaced combined spelled most_bytes
endless_print_runs = refl

endless_print_works : nat_le (work_of (run endless_print 3 0 (start 128 16 endless_print_data))) 75 ≡ true
unfolding compared misplaced combined spelled most_bytes
endless_print_works = refl

endless_print_reads : (nat_eq (wanted_reads endless_print (among ([] ∷ [])) 0) 0 && true) ≡ true
endless_print_reads = refl

endless_print_tests : (nat_eq (open_tests endless_print (among ([] ∷ [])) 0) 1 && true) ≡ true
endless_print_tests = refl

-- int main(void){for(;;);return 0;}
abbrev endless_quiet : Program
endless_quiet = record { limit = 100; function = function } where
  addresses : ℕ → ℕ
  addresses k = slice_index [] k

  f0 : Function
  f0 = record {
    address = addresses;
    callee = λ g. g;
    parameters = [];
    frame = 0;
    body = (tree.Loop here None tree.Done None (tree.Evaluate here (tree.Exit here (tree.Number 0)) tree.Done));
  }

  function : ℕ → Function
  function f = f0

endless_quiet_lawful : (is_lawful_body 128 1 (slice_get (0 ∷ [])) false (let p = endless_quiet in p.function 0) && true) ≡ true
endless_quiet_lawful = refl

abbrev endless_quiet_data : List ℕ
endless_quiet_data = []

endless_quiet_runs :
    seen 0 (run endless_quiet 3 0 (start 128 16 endless_quiet_data)) ≡
    record { end = Going; printed = []; reads = 0; writes = 0; bytes = []; rest_is_zero = true }
unfolding compared misplaced combined spelled most_bytes
endless_quiet_runs = refl

endless_quiet_works : nat_le (work_of (run endless_quiet 3 0 (start 128 16 endless_quiet_data))) 27 ≡ true
unfolding compared misplaced combined spelled most_bytes
endless_quiet_works = refl

endless_quiet_reads : (nat_eq (wanted_reads endless_quiet (among ([] ∷ [])) 0) 0 && true) ≡ true
endless_quiet_reads = refl

endless_quiet_tests : (nat_eq (open_tests endless_quiet (among ([] ∷ [])) 0) 0 && true) ≡ true
endless_quiet_tests = refl

-- #include <stdio.h>
-- int main(void){int i;for(i=0;i<9;i++){putchar('a'+i);if(i==2)for(;;)putchar('.');}return 0;}
abbrev endless_inner : Program
endless_inner = record { limit = 100; function = function } where
  addresses : ℕ → ℕ
  addresses k = slice_index [] k

  f0 : Function
  f0 = record {
    address = addresses;
    callee = λ g. g;
    parameters = [];
    frame = 0;
    body = (tree.Evaluate here (tree.Assign here kind.I32 (tree.InVariable 1) (tree.Number 0)) (tree.Evaluate here
        (tree.Assign here kind.I32 (tree.InVariable 1) (tree.Number 0)) (tree.Loop here (Some (tree.Compare here
        rel.LessSigned false (tree.Variable here 1) (tree.Number 9))) (tree.Evaluate here (tree.Putchar here (tree.Binary
        here op.Add (tree.Number 97) (tree.Variable here 1))) (tree.If here (tree.Compare here rel.Equal false
        (tree.Variable here 1) (tree.Number 2)) (tree.Loop here None (tree.Evaluate here (tree.Putchar here (tree.Number
        46)) tree.Done) None tree.Done) tree.Done tree.Done)) (Some (tree.Step here kind.I32 (tree.InVariable 1) 1 false))
        (tree.Evaluate here (tree.Exit here (tree.Number 0)) tree.Done))));
  }

  function : ℕ → Function
  function f = f0

endless_inner_lawful : (is_lawful_body 128 2 (slice_get (0 ∷ [])) false (let p = endless_inner in p.function 0) && true) ≡ true
endless_inner_lawful = refl

abbrev endless_inner_data : List ℕ
endless_inner_data = []

endless_inner_runs :
    seen 0 (run endless_inner 3 0 (start 128 16 endless_inner_data)) ≡
    record {
      end = Going;
      printed = (((((([] ++ spelled spell.Byte 97) ++ spelled spell.Byte 98) ++ spelled spell.Byte 99)
          ++ spelled spell.Byte 46) ++ spelled spell.Byte 46) ++ spelled spell.Byte 46);
      reads = 0;
      writes = 0;
      bytes = [];
      rest_is_zero = true;
    }
unfolding compared misplaced combined spelled most_bytes
endless_inner_runs = refl

endless_inner_works : nat_le (work_of (run endless_inner 3 0 (start 128 16 endless_inner_data))) 234 ≡ true
unfolding compared misplaced combined spelled most_bytes
endless_inner_works = refl

endless_inner_reads : (nat_eq (wanted_reads endless_inner (among ([] ∷ [])) 0) 0 && true) ≡ true
endless_inner_reads = refl

endless_inner_tests : (nat_eq (open_tests endless_inner (among ([] ∷ [])) 0) 0 && true) ≡ true
endless_inner_tests = refl

-- #include <stdio.h>
-- int main(void){int i=0;while(i<3){putchar('0'+i);i++;}do{putchar('b');}while(i++<9);return 0;}
abbrev turns_run_out : Program
turns_run_out = record { limit = 100; function = function } where
  addresses : ℕ → ℕ
  addresses k = slice_index [] k

  f0 : Function
  f0 = record {
    address = addresses;
    callee = λ g. g;
    parameters = [];
    frame = 0;
    body = (tree.Evaluate here (tree.Assign here kind.I32 (tree.InVariable 1) (tree.Number 0)) (tree.Loop here (Some
        (tree.Compare here rel.LessSigned false (tree.Variable here 1) (tree.Number 3))) (tree.Evaluate here (tree.Putchar
        here (tree.Binary here op.Add (tree.Number 48) (tree.Variable here 1))) (tree.Evaluate here (tree.Step here
        kind.I32 (tree.InVariable 1) 1 false) tree.Done)) None (tree.Do here (tree.Evaluate here (tree.Putchar here
        (tree.Number 98)) tree.Done) (tree.Compare here rel.LessSigned false (tree.Step here kind.I32 (tree.InVariable 1)
        1 false) (tree.Number 9)) (tree.Evaluate here (tree.Exit here (tree.Number 0)) tree.Done))));
  }

  function : ℕ → Function
  function f = f0

turns_run_out_lawful : (is_lawful_body 128 2 (slice_get (0 ∷ [])) false (let p = turns_run_out in p.function 0) && true) ≡ true
turns_run_out_lawful = refl

abbrev turns_run_out_data : List ℕ
turns_run_out_data = []

turns_run_out_runs :
    seen 0 (run turns_run_out 3 0 (start 128 16 turns_run_out_data)) ≡
    record {
      end = Going;
      printed = (((((([] ++ spelled spell.Byte 48) ++ spelled spell.Byte 49) ++ spelled spell.Byte 50)
          ++ spelled spell.Byte 98) ++ spelled spell.Byte 98) ++ spelled spell.Byte 98);
      reads = 0;
      writes = 0;
      bytes = [];
      rest_is_zero = true;
    }
unfolding compared misplaced combined spelled most_bytes
turns_run_out_runs = refl

turns_run_out_works : nat_le (work_of (run turns_run_out 3 0 (start 128 16 turns_run_out_data))) 261 ≡ true
unfolding compared misplaced combined spelled most_bytes
turns_run_out_works = refl

turns_run_out_reads : (nat_eq (wanted_reads turns_run_out (among ([] ∷ [])) 0) 0 && true) ≡ true
turns_run_out_reads = refl

turns_run_out_tests : (nat_eq (open_tests turns_run_out (among ([] ∷ [])) 0) 0 && true) ≡ true
turns_run_out_tests = refl

-- #include <stdio.h>
-- int main(void){while(putchar(116))putchar(98);return 0;}
abbrev tests_of_last_turn : Program
tests_of_last_turn = record { limit = 100; function = function } where
  addresses : ℕ → ℕ
  addresses k = slice_index [] k

  f0 : Function
  f0 = record {
    address = addresses;
    callee = λ g. g;
    parameters = [];
    frame = 0;
    body = (tree.Loop here (Some (tree.Putchar here (tree.Number 116))) (tree.Evaluate here (tree.Putchar here (tree.Number
        98)) tree.Done) None (tree.Evaluate here (tree.Exit here (tree.Number 0)) tree.Done));
  }

  function : ℕ → Function
  function f = f0

tests_of_last_turn_lawful : (is_lawful_body 128 1 (slice_get (0 ∷ [])) false (let p = tests_of_last_turn in p.function 0) && true) ≡ true
tests_of_last_turn_lawful = refl

abbrev tests_of_last_turn_data : List ℕ
tests_of_last_turn_data = []

tests_of_last_turn_runs :
    seen 0 (run tests_of_last_turn 3 0 (start 128 16 tests_of_last_turn_data)) ≡
    record {
      end = Going;
      printed = ((((((([] ++ spelled spell.Byte 116) ++ spelled spell.Byte 98) ++ spelled spell.Byte
          116) ++ spelled spell.Byte 98) ++ spelled spell.Byte 116) ++ spelled spell.Byte 98) ++ spelled spell.Byte 116);
      reads
          = 0;
      writes = 0;
      bytes = [];
      rest_is_zero = true;
    }
unfolding compared misplaced combined spelled most_bytes
tests_of_last_turn_runs = refl

tests_of_last_turn_works : nat_le (work_of (run tests_of_last_turn 3 0 (start 128 16 tests_of_last_turn_data))) 111 ≡ true
unfolding compared misplaced combined spelled most_bytes
tests_of_last_turn_works = refl

tests_of_last_turn_reads : (nat_eq (wanted_reads tests_of_last_turn (among ([] ∷ [])) 0) 0 && true) ≡ true
tests_of_last_turn_reads = refl

tests_of_last_turn_tests : (nat_eq (open_tests tests_of_last_turn (among ([] ∷ [])) 0) 0 && true) ≡ true
tests_of_last_turn_tests = refl

-- #include <stdio.h>
-- #include <stdlib.h>
-- int main(void){int i=0;while(i++<3||(exit(i),1))putchar(98);return 0;}
abbrev test_ends_program : Program
test_ends_program = record { limit = 100; function = function } where
  addresses : ℕ → ℕ
  addresses k = slice_index [] k

  f0 : Function
  f0 = record {
    address = addresses;
    callee = λ g. g;
    parameters = [];
    frame = 0;
    body = (tree.Evaluate here (tree.Assign here kind.I32 (tree.InVariable 1) (tree.Number 0)) (tree.Loop here (Some (tree.Or
        here (tree.Compare here rel.LessSigned false (tree.Step here kind.I32 (tree.InVariable 1) 1 false) (tree.Number
        3)) (tree.Comma (tree.Exit here (tree.Variable here 1)) (tree.Number 1)))) (tree.Evaluate here (tree.Putchar here
        (tree.Number 98)) tree.Done) None (tree.Evaluate here (tree.Exit here (tree.Number 0)) tree.Done)));
  }

  function : ℕ → Function
  function f = f0

test_ends_program_lawful : (is_lawful_body 128 2 (slice_get (0 ∷ [])) false (let p = test_ends_program in p.function 0) && true) ≡ true
test_ends_program_lawful = refl

abbrev test_ends_program_data : List ℕ
test_ends_program_data = []

test_ends_program_runs :
    seen 0 (run test_ends_program 3 0 (start 128 16 test_ends_program_data)) ≡
    record {
      end = Halted 4;
      printed = ((([] ++ spelled spell.Byte 98) ++ spelled spell.Byte 98) ++ spelled spell.Byte
          98);
      reads = 0;
      writes = 0;
      bytes = [];
      rest_is_zero = true;
    }
unfolding compared misplaced combined spelled most_bytes
test_ends_program_runs = refl

test_ends_program_works : nat_le (work_of (run test_ends_program 3 0 (start 128 16 test_ends_program_data))) 144 ≡ true
unfolding compared misplaced combined spelled most_bytes
test_ends_program_works = refl

test_ends_program_reads : (nat_eq (wanted_reads test_ends_program (among ([] ∷ [])) 0) 0 && true) ≡ true
test_ends_program_reads = refl
