-- Examples of calls: programs, and what an independent implementation of their meaning finds of them. Made by
-- tools/meaning/terms.py.
use Rattle.std.proofs.Common.{◌≡◌, ℕ, true, false, ◌&&◌, ◌∷◌, List, [], ◌++◌, Some, None, nat_eq, if◌then◌else◌, refl}
use Rattle.std.specs.Prelude.{slice_index, slice_get, nat_le}
use Rattle.dae_base.specs.declared.Width.TheVariants as width
use Rattle.dae_base.specs.declared.LoadKind.TheVariants as kind
use Rattle.dae_meaning.specs.Operations.{compared, misplaced, combined, spelled}
use Rattle.dae_meaning.specs.Results.{Halted, Trapped}
use Rattle.dae_meaning.specs.declared.Operator.TheVariants as op
use Rattle.dae_meaning.specs.declared.Comparison.TheVariants as rel
use Rattle.dae_meaning.specs.declared.Spelling.TheVariants as spell
use Rattle.dae_program.specs.declared.statements.FormatPiece.TheVariants as piece
use Rattle.dae_program.specs.Trees as tree
use Rattle.dae_program.specs.Trees.{Program, Function}
use Rattle.dae_program.specs.Printing.{most_bytes}
use Rattle.dae_program.specs.Programs.{run, start}
use Rattle.dae_program.specs.Lawful.{is_lawful_body}
use Rattle.dae_program.specs.Wanted.{wanted_reads, open_tests}
use Rattle.dae_program_tests.proofs.Seen.{here, seen, work_of, among}

-- #include <stdio.h>
-- int f(int n){return n?1+f(n-1):0;}int main(void){printf("%d\n",f(18));return 0;}
abbrev deep_calls : Program
deep_calls = record { limit = 20; function = function } where
  addresses : ℕ → ℕ
  addresses k = slice_index (16 ∷ []) k

  f0 : Function
  f0 = record {
    address = addresses;
    callee = λ g. g;
    parameters = (None ∷ []);
    frame = 0;
    body = (tree.Return here (Some (tree.Conditional here (tree.Variable here 1) (tree.Binary here op.Add (tree.Number 1)
        (tree.Call here 0 (tree.expression_then (tree.Binary here op.Subtract (tree.Variable here 1) (tree.Number 1))
        tree.no_expressions))) (tree.Number 0))) tree.Done);
  }

  f1 : Function
  f1 = record {
    address = addresses;
    callee = λ g. g;
    parameters = [];
    frame = 0;
    body = (tree.Print here (tree.expression_then (tree.Call here 0 (tree.expression_then (tree.Number 18)
        tree.no_expressions)) tree.no_expressions) (piece.Word spell.Signed 0 ∷ piece.Byte 10 ∷ []) (tree.Evaluate here
        (tree.Exit here (tree.Number 0)) tree.Done));
  }

  function : ℕ → Function
  function f = (if nat_eq f 0 then f0 else f1)

deep_calls_lawful : (is_lawful_body 128 2 (slice_get (1 ∷ 0 ∷ [])) true (let p = deep_calls in p.function 0) && (is_lawful_body 128 1 (slice_get (1 ∷ 0 ∷ [])) false (let p = deep_calls in p.function 1) && true)) ≡ true
deep_calls_lawful = refl

abbrev deep_calls_data : List ℕ
deep_calls_data = (37 ∷ 100 ∷ 10 ∷ 0 ∷ [])

deep_calls_runs :
    seen 3 (run deep_calls 100000 1 (start 128 20 deep_calls_data)) ≡
    record {
      end = Halted 0;
      printed = (([] ++ spelled spell.Signed 18) ++ (10 ∷ []));
      reads = 0;
      writes = 0;
      bytes = (37
          ∷ 100 ∷ 10 ∷ []);
      rest_is_zero = true;
    }
unfolding compared misplaced combined spelled most_bytes
deep_calls_runs = refl

deep_calls_reads : (nat_eq (wanted_reads deep_calls (among ([] ∷ [] ∷ [])) 0) 0 && (nat_eq (wanted_reads deep_calls (among ([] ∷ [] ∷
    [])) 1) 0 && true)) ≡ true
deep_calls_reads = refl

deep_calls_tests : (nat_eq (open_tests deep_calls (among ([] ∷ [] ∷ [])) 0) 0 && (nat_eq (open_tests deep_calls (among ([] ∷ [] ∷ [])) 1)
    0 && true)) ≡ true
deep_calls_tests = refl

-- #include <stdio.h>
-- int f(int n){return n?1+f(n-1):0;}int main(void){printf("%d\n",f(19));return 0;}
abbrev too_deep_calls : Program
too_deep_calls = record { limit = 20; function = function } where
  addresses : ℕ → ℕ
  addresses k = slice_index (16 ∷ []) k

  f0 : Function
  f0 = record {
    address = addresses;
    callee = λ g. g;
    parameters = (None ∷ []);
    frame = 0;
    body = (tree.Return here (Some (tree.Conditional here (tree.Variable here 1) (tree.Binary here op.Add (tree.Number 1)
        (tree.Call here 0 (tree.expression_then (tree.Binary here op.Subtract (tree.Variable here 1) (tree.Number 1))
        tree.no_expressions))) (tree.Number 0))) tree.Done);
  }

  f1 : Function
  f1 = record {
    address = addresses;
    callee = λ g. g;
    parameters = [];
    frame = 0;
    body = (tree.Print here (tree.expression_then (tree.Call here 0 (tree.expression_then (tree.Number 19)
        tree.no_expressions)) tree.no_expressions) (piece.Word spell.Signed 0 ∷ piece.Byte 10 ∷ []) (tree.Evaluate here
        (tree.Exit here (tree.Number 0)) tree.Done));
  }

  function : ℕ → Function
  function f = (if nat_eq f 0 then f0 else f1)

too_deep_calls_lawful : (is_lawful_body 128 2 (slice_get (1 ∷ 0 ∷ [])) true (let p = too_deep_calls in p.function 0) && (is_lawful_body 128 1 (slice_get (1 ∷ 0 ∷ [])) false (let p = too_deep_calls in p.function 1) && true)) ≡ true
too_deep_calls_lawful = refl

abbrev too_deep_calls_data : List ℕ
too_deep_calls_data = (37 ∷ 100 ∷ 10 ∷ 0 ∷ [])

too_deep_calls_runs :
    seen 3 (run too_deep_calls 100000 1 (start 128 20 too_deep_calls_data)) ≡
    record { end = Trapped 4; printed = []; reads = 0; writes = 0; bytes = (37 ∷ 100 ∷ 10 ∷ []); rest_is_zero = true }
unfolding compared misplaced combined spelled most_bytes
too_deep_calls_runs = refl

too_deep_calls_works : nat_le (work_of (run too_deep_calls 100000 1 (start 128 20 too_deep_calls_data))) 651 ≡ true
unfolding compared misplaced combined spelled most_bytes
too_deep_calls_works = refl

too_deep_calls_reads : (nat_eq (wanted_reads too_deep_calls (among ([] ∷ [] ∷ [])) 0) 0 && (nat_eq (wanted_reads too_deep_calls (among ([] ∷
    [] ∷ [])) 1) 0 && true)) ≡ true
too_deep_calls_reads = refl

too_deep_calls_tests : (nat_eq (open_tests too_deep_calls (among ([] ∷ [] ∷ [])) 0) 0 && (nat_eq (open_tests too_deep_calls (among ([] ∷ [] ∷
    [])) 1) 0 && true)) ≡ true
too_deep_calls_tests = refl

-- int f(void){return f();}int main(void){return f();}
abbrev endless_calls : Program
endless_calls = record { limit = 20; function = function } where
  addresses : ℕ → ℕ
  addresses k = slice_index [] k

  f0 : Function
  f0 = record {
    address = addresses;
    callee = λ g. g;
    parameters = [];
    frame = 0;
    body = (tree.Return here (Some (tree.Call here 0 tree.no_expressions)) tree.Done);
  }

  f1 : Function
  f1 = record {
    address = addresses;
    callee = λ g. g;
    parameters = [];
    frame = 0;
    body = (tree.Evaluate here (tree.Exit here (tree.Call here 0 tree.no_expressions)) tree.Done);
  }

  function : ℕ → Function
  function f = (if nat_eq f 0 then f0 else f1)

endless_calls_lawful : (is_lawful_body 128 1 (slice_get (0 ∷ 0 ∷ [])) true (let p = endless_calls in p.function 0) && (is_lawful_body 128 1 (slice_get (0 ∷ 0 ∷ [])) false (let p = endless_calls in p.function 1) && true)) ≡ true
endless_calls_lawful = refl

abbrev endless_calls_data : List ℕ
endless_calls_data = []

endless_calls_runs :
    seen 0 (run endless_calls 100000 1 (start 128 16 endless_calls_data)) ≡
    record { end = Trapped 4; printed = []; reads = 0; writes = 0; bytes = []; rest_is_zero = true }
unfolding compared misplaced combined spelled most_bytes
endless_calls_runs = refl

endless_calls_works : nat_le (work_of (run endless_calls 100000 1 (start 128 16 endless_calls_data))) 183 ≡ true
unfolding compared misplaced combined spelled most_bytes
endless_calls_works = refl

endless_calls_reads : (nat_eq (wanted_reads endless_calls (among ([] ∷ [] ∷ [])) 0) 0 && (nat_eq (wanted_reads endless_calls (among ([] ∷ []
    ∷ [])) 1) 0 && true)) ≡ true
endless_calls_reads = refl

endless_calls_tests : (nat_eq (open_tests endless_calls (among ([] ∷ [] ∷ [])) 0) 0 && (nat_eq (open_tests endless_calls (among ([] ∷ [] ∷
    [])) 1) 0 && true)) ≡ true
endless_calls_tests = refl

-- #include <stdio.h>
-- int p(int x){putchar(48+x);return x;}int f(int n,int x){return f(p(n),x+n);}int main(void){return f(3,4);}
abbrev room_after_arguments : Program
room_after_arguments = record { limit = 5; function = function } where
  addresses : ℕ → ℕ
  addresses k = slice_index [] k

  f0 : Function
  f0 = record {
    address = addresses;
    callee = λ g. g;
    parameters = (None ∷ []);
    frame = 0;
    body = (tree.Evaluate here (tree.Putchar here (tree.Binary here op.Add (tree.Number 48) (tree.Variable here 1)))
        (tree.Return here (Some (tree.Variable here 1)) tree.Done));
  }

  f1 : Function
  f1 = record {
    address = addresses;
    callee = λ g. g;
    parameters = (None ∷ None ∷ []);
    frame = 0;
    body = (tree.Return here (Some (tree.Call here 1 (tree.expression_then (tree.Call here 0 (tree.expression_then
        (tree.Variable here 1) tree.no_expressions)) (tree.expression_then (tree.Binary here op.Add (tree.Variable here 2)
        (tree.Variable here 1)) tree.no_expressions)))) tree.Done);
  }

  f2 : Function
  f2 = record {
    address = addresses;
    callee = λ g. g;
    parameters = [];
    frame = 0;
    body = (tree.Evaluate here (tree.Exit here (tree.Call here 1 (tree.expression_then (tree.Number 3) (tree.expression_then
        (tree.Number 4) tree.no_expressions)))) tree.Done);
  }

  function : ℕ → Function
  function f = (if nat_eq f 0 then f0 else (if nat_eq f 1 then f1 else f2))

room_after_arguments_lawful : (is_lawful_body 128 2 (slice_get (1 ∷ 2 ∷ 0 ∷ [])) true (let p = room_after_arguments in p.function 0) && (is_lawful_body 128 3 (slice_get (1 ∷ 2 ∷ 0 ∷ [])) true (let p = room_after_arguments in p.function 1) && (is_lawful_body 128 1 (slice_get (1 ∷ 2 ∷ 0 ∷ [])) false (let p = room_after_arguments in p.function 2) && true))) ≡ true
room_after_arguments_lawful = refl

abbrev room_after_arguments_data : List ℕ
room_after_arguments_data = []

room_after_arguments_runs :
    seen 0 (run room_after_arguments 100000 2 (start 128 16 room_after_arguments_data)) ≡
    record {
      end = Trapped 4;
      printed = ((([] ++ spelled spell.Byte 51) ++ spelled spell.Byte 51) ++ spelled spell.Byte
          51);
      reads = 0;
      writes = 0;
      bytes = [];
      rest_is_zero = true;
    }
unfolding compared misplaced combined spelled most_bytes
room_after_arguments_runs = refl

room_after_arguments_works : nat_le (work_of (run room_after_arguments 100000 2 (start 128 16 room_after_arguments_data))) 246 ≡ true
unfolding compared misplaced combined spelled most_bytes
room_after_arguments_works = refl

room_after_arguments_reads : (nat_eq (wanted_reads room_after_arguments (among ([] ∷ [] ∷ [] ∷ [])) 0) 0 && (nat_eq (wanted_reads
    room_after_arguments (among ([] ∷ [] ∷ [] ∷ [])) 1) 0 && (nat_eq (wanted_reads room_after_arguments (among ([] ∷ [] ∷
    [] ∷ [])) 2) 0 && true))) ≡ true
room_after_arguments_reads = refl

room_after_arguments_tests : (nat_eq (open_tests room_after_arguments (among ([] ∷ [] ∷ [] ∷ [])) 0) 0 && (nat_eq (open_tests room_after_arguments
    (among ([] ∷ [] ∷ [] ∷ [])) 1) 0 && (nat_eq (open_tests room_after_arguments (among ([] ∷ [] ∷ [] ∷ [])) 2) 0 &&
    true))) ≡ true
room_after_arguments_tests = refl

-- #include <stdio.h>
-- int main(void){printf("%c",65);putchar(66);return 7;}
abbrev one_call_deep : Program
one_call_deep = record { limit = 1; function = function } where
  addresses : ℕ → ℕ
  addresses k = slice_index (16 ∷ []) k

  f0 : Function
  f0 = record {
    address = addresses;
    callee = λ g. g;
    parameters = [];
    frame = 0;
    body = (tree.Print here (tree.expression_then (tree.Number 65) tree.no_expressions) (piece.Word spell.Byte 0 ∷ [])
        (tree.Evaluate here (tree.Putchar here (tree.Number 66)) (tree.Evaluate here (tree.Exit here (tree.Number 7))
        tree.Done)));
  }

  function : ℕ → Function
  function f = f0

one_call_deep_lawful : (is_lawful_body 128 1 (slice_get (0 ∷ [])) false (let p = one_call_deep in p.function 0) && true) ≡ true
one_call_deep_lawful = refl

abbrev one_call_deep_data : List ℕ
one_call_deep_data = (37 ∷ 99 ∷ 0 ∷ [])

one_call_deep_runs :
    seen 2 (run one_call_deep 100000 0 (start 128 20 one_call_deep_data)) ≡
    record {
      end = Halted 7;
      printed = (([] ++ spelled spell.Byte 65) ++ spelled spell.Byte 66);
      reads = 0;
      writes = 0;
      bytes = (37 ∷ 99 ∷ []);
      rest_is_zero = true;
    }
unfolding compared misplaced combined spelled most_bytes
one_call_deep_runs = refl

one_call_deep_works : nat_le (work_of (run one_call_deep 100000 0 (start 128 20 one_call_deep_data))) 42 ≡ true
unfolding compared misplaced combined spelled most_bytes
one_call_deep_works = refl

one_call_deep_reads : (nat_eq (wanted_reads one_call_deep (among ([] ∷ [])) 0) 0 && true) ≡ true
one_call_deep_reads = refl

one_call_deep_tests : (nat_eq (open_tests one_call_deep (among ([] ∷ [])) 0) 0 && true) ≡ true
one_call_deep_tests = refl

-- #include <stdio.h>
-- int f(void){return 1;}int main(void){putchar(65);return f();}
abbrev one_call_too_deep : Program
one_call_too_deep = record { limit = 1; function = function } where
  addresses : ℕ → ℕ
  addresses k = slice_index [] k

  f0 : Function
  f0 = record {
    address = addresses;
    callee = λ g. g;
    parameters = [];
    frame = 0;
    body = (tree.Return here (Some (tree.Number 1)) tree.Done);
  }

  f1 : Function
  f1 = record {
    address = addresses;
    callee = λ g. g;
    parameters = [];
    frame = 0;
    body = (tree.Evaluate here (tree.Putchar here (tree.Number 65)) (tree.Evaluate here (tree.Exit here (tree.Call here 0
        tree.no_expressions)) tree.Done));
  }

  function : ℕ → Function
  function f = (if nat_eq f 0 then f0 else f1)

one_call_too_deep_lawful : (is_lawful_body 128 1 (slice_get (0 ∷ 0 ∷ [])) true (let p = one_call_too_deep in p.function 0) && (is_lawful_body 128 1 (slice_get (0 ∷ 0 ∷ [])) false (let p = one_call_too_deep in p.function 1) && true)) ≡ true
one_call_too_deep_lawful = refl

abbrev one_call_too_deep_data : List ℕ
one_call_too_deep_data = []

one_call_too_deep_runs :
    seen 0 (run one_call_too_deep 100000 1 (start 128 16 one_call_too_deep_data)) ≡
    record {
      end = Trapped 4;
      printed = ([] ++ spelled spell.Byte 65);
      reads = 0;
      writes = 0;
      bytes = [];
      rest_is_zero =
          true;
    }
unfolding compared misplaced combined spelled most_bytes
one_call_too_deep_runs = refl

one_call_too_deep_works : nat_le (work_of (run one_call_too_deep 100000 1 (start 128 16 one_call_too_deep_data))) 27 ≡ true
unfolding compared misplaced combined spelled most_bytes
one_call_too_deep_works = refl

one_call_too_deep_reads : (nat_eq (wanted_reads one_call_too_deep (among ([] ∷ [] ∷ [])) 0) 0 && (nat_eq (wanted_reads one_call_too_deep (among
    ([] ∷ [] ∷ [])) 1) 0 && true)) ≡ true
one_call_too_deep_reads = refl

one_call_too_deep_tests : (nat_eq (open_tests one_call_too_deep (among ([] ∷ [] ∷ [])) 0) 0 && (nat_eq (open_tests one_call_too_deep (among ([]
    ∷ [] ∷ [])) 1) 0 && true)) ≡ true
one_call_too_deep_tests = refl

-- #include <stdio.h>
-- int f(void){return 1;}int main(void){putchar(65);return f()+f();}
abbrev two_calls_deep : Program
two_calls_deep = record { limit = 2; function = function } where
  addresses : ℕ → ℕ
  addresses k = slice_index [] k

  f0 : Function
  f0 = record {
    address = addresses;
    callee = λ g. g;
    parameters = [];
    frame = 0;
    body = (tree.Return here (Some (tree.Number 1)) tree.Done);
  }

  f1 : Function
  f1 = record {
    address = addresses;
    callee = λ g. g;
    parameters = [];
    frame = 0;
    body = (tree.Evaluate here (tree.Putchar here (tree.Number 65)) (tree.Evaluate here (tree.Exit here (tree.Binary here
        op.Add (tree.Call here 0 tree.no_expressions) (tree.Call here 0 tree.no_expressions))) tree.Done));
  }

  function : ℕ → Function
  function f = (if nat_eq f 0 then f0 else f1)

two_calls_deep_lawful : (is_lawful_body 128 1 (slice_get (0 ∷ 0 ∷ [])) true (let p = two_calls_deep in p.function 0) && (is_lawful_body 128 1 (slice_get (0 ∷ 0 ∷ [])) false (let p = two_calls_deep in p.function 1) && true)) ≡ true
two_calls_deep_lawful = refl

abbrev two_calls_deep_data : List ℕ
two_calls_deep_data = []

two_calls_deep_runs :
    seen 0 (run two_calls_deep 100000 1 (start 128 16 two_calls_deep_data)) ≡
    record {
      end = Halted 2;
      printed = ([] ++ spelled spell.Byte 65);
      reads = 0;
      writes = 0;
      bytes = [];
      rest_is_zero =
          true;
    }
unfolding compared misplaced combined spelled most_bytes
two_calls_deep_runs = refl

two_calls_deep_works : nat_le (work_of (run two_calls_deep 100000 1 (start 128 16 two_calls_deep_data))) 51 ≡ true
unfolding compared misplaced combined spelled most_bytes
two_calls_deep_works = refl

two_calls_deep_reads : (nat_eq (wanted_reads two_calls_deep (among ([] ∷ [] ∷ [])) 0) 0 && (nat_eq (wanted_reads two_calls_deep (among ([] ∷
    [] ∷ [])) 1) 0 && true)) ≡ true
two_calls_deep_reads = refl

two_calls_deep_tests : (nat_eq (open_tests two_calls_deep (among ([] ∷ [] ∷ [])) 0) 0 && (nat_eq (open_tests two_calls_deep (among ([] ∷ [] ∷
    [])) 1) 0 && true)) ≡ true
two_calls_deep_tests = refl

-- int main(void){int a[40];a[0]=1;return a[0];}
abbrev main_without_room : Program
main_without_room = record { limit = 100; function = function } where
  addresses : ℕ → ℕ
  addresses k = slice_index [] k

  f0 : Function
  f0 = record {
    address = addresses;
    callee = λ g. g;
    parameters = [];
    frame = 160;
    body = (tree.Evaluate here (tree.Assign here kind.I32 (tree.AtAddress true (tree.Frame here 0)) (tree.Number 1))
        (tree.Evaluate here (tree.Exit here (tree.Read here kind.I32 true (tree.Frame here 0))) tree.Done));
  }

  function : ℕ → Function
  function f = f0

main_without_room_lawful : (is_lawful_body 128 1 (slice_get (0 ∷ [])) false (let p = main_without_room in p.function 0) && true) ≡ true
main_without_room_lawful = refl

abbrev main_without_room_data : List ℕ
main_without_room_data = []

main_without_room_runs :
    seen 0 (run main_without_room 100000 0 (start 128 16 main_without_room_data)) ≡
    record { end = Trapped 4; printed = []; reads = 0; writes = 0; bytes = []; rest_is_zero = true }
unfolding compared misplaced combined spelled most_bytes
main_without_room_runs = refl

main_without_room_works : nat_le (work_of (run main_without_room 100000 0 (start 128 16 main_without_room_data))) 3 ≡ true
unfolding compared misplaced combined spelled most_bytes
main_without_room_works = refl

main_without_room_reads : (nat_eq (wanted_reads main_without_room (among ([] ∷ [])) 0) 0 && true) ≡ true
main_without_room_reads = refl

main_without_room_tests : (nat_eq (open_tests main_without_room (among ([] ∷ [])) 0) 0 && true) ≡ true
main_without_room_tests = refl

-- int main(void){int a[28];a[27]=1;return a[27];}
abbrev main_with_room : Program
main_with_room = record { limit = 100; function = function } where
  addresses : ℕ → ℕ
  addresses k = slice_index [] k

  f0 : Function
  f0 = record {
    address = addresses;
    callee = λ g. g;
    parameters = [];
    frame = 112;
    body = (tree.Evaluate here (tree.Assign here kind.I32 (tree.AtAddress true (tree.Frame here 108)) (tree.Number 1))
        (tree.Evaluate here (tree.Exit here (tree.Read here kind.I32 true (tree.Frame here 108))) tree.Done));
  }

  function : ℕ → Function
  function f = f0

main_with_room_lawful : (is_lawful_body 128 1 (slice_get (0 ∷ [])) false (let p = main_with_room in p.function 0) && true) ≡ true
main_with_room_lawful = refl

abbrev main_with_room_data : List ℕ
main_with_room_data = []

main_with_room_runs :
    seen 109 (run main_with_room 100000 0 (start 128 16 main_with_room_data)) ≡
    record {
      end = Halted 1;
      printed = [];
      reads = 1;
      writes = 1;
      bytes = (0 ∷ 0 ∷ 0 ∷ 0 ∷ 0 ∷ 0 ∷ 0 ∷ 0 ∷ 0 ∷ 0 ∷ 0 ∷ 0 ∷
          0 ∷ 0 ∷ 0 ∷ 0 ∷ 0 ∷ 0 ∷ 0 ∷ 0 ∷ 0 ∷ 0 ∷ 0 ∷ 0 ∷ 0 ∷ 0 ∷ 0 ∷ 0 ∷ 0 ∷ 0 ∷ 0 ∷ 0 ∷ 0 ∷ 0 ∷ 0 ∷ 0 ∷ 0 ∷ 0 ∷ 0 ∷ 0 ∷ 0 ∷ 0
          ∷ 0 ∷ 0 ∷ 0 ∷ 0 ∷ 0 ∷ 0 ∷ 0 ∷ 0 ∷ 0 ∷ 0 ∷ 0 ∷ 0 ∷ 0 ∷ 0 ∷ 0 ∷ 0 ∷ 0 ∷ 0 ∷ 0 ∷ 0 ∷ 0 ∷ 0 ∷ 0 ∷ 0 ∷ 0 ∷ 0 ∷ 0 ∷ 0 ∷ 0 ∷
          0 ∷ 0 ∷ 0 ∷ 0 ∷ 0 ∷ 0 ∷ 0 ∷ 0 ∷ 0 ∷ 0 ∷ 0 ∷ 0 ∷ 0 ∷ 0 ∷ 0 ∷ 0 ∷ 0 ∷ 0 ∷ 0 ∷ 0 ∷ 0 ∷ 0 ∷ 0 ∷ 0 ∷ 0 ∷ 0 ∷ 0 ∷ 0 ∷ 0 ∷ 0
          ∷ 0 ∷ 0 ∷ 0 ∷ 0 ∷ 0 ∷ 0 ∷ 0 ∷ 1 ∷ []);
      rest_is_zero = true;
    }
unfolding compared misplaced combined spelled most_bytes
main_with_room_runs = refl

main_with_room_works : nat_le (work_of (run main_with_room 100000 0 (start 128 16 main_with_room_data))) 36 ≡ true
unfolding compared misplaced combined spelled most_bytes
main_with_room_works = refl

main_with_room_reads : (nat_eq (wanted_reads main_with_room (among ([] ∷ [])) 0) 0 && true) ≡ true
main_with_room_reads = refl

main_with_room_tests : (nat_eq (open_tests main_with_room (among ([] ∷ [])) 0) 0 && true) ≡ true
main_with_room_tests = refl

-- int f(int n){int a[4];a[0]=n;return n?f(n-1)+a[0]:0;}int main(void){return f(3)+f(9);}
abbrev frame_full : Program
frame_full = record { limit = 100; function = function } where
  addresses : ℕ → ℕ
  addresses k = slice_index [] k

  f0 : Function
  f0 = record {
    address = addresses;
    callee = λ g. g;
    parameters = (None ∷ []);
    frame = 16;
    body = (tree.Evaluate here (tree.Assign here kind.I32 (tree.AtAddress true (tree.Frame here 0)) (tree.Variable here 1))
        (tree.Return here (Some (tree.Conditional here (tree.Variable here 1) (tree.Binary here op.Add (tree.Call here 0
        (tree.expression_then (tree.Binary here op.Subtract (tree.Variable here 1) (tree.Number 1)) tree.no_expressions))
        (tree.Read here kind.I32 true (tree.Frame here 0))) (tree.Number 0))) tree.Done));
  }

  f1 : Function
  f1 = record {
    address = addresses;
    callee = λ g. g;
    parameters = [];
    frame = 0;
    body = (tree.Evaluate here (tree.Exit here (tree.Binary here op.Add (tree.Call here 0 (tree.expression_then (tree.Number
        3) tree.no_expressions)) (tree.Call here 0 (tree.expression_then (tree.Number 9) tree.no_expressions))))
        tree.Done);
  }

  function : ℕ → Function
  function f = (if nat_eq f 0 then f0 else f1)

frame_full_lawful : (is_lawful_body 128 2 (slice_get (1 ∷ 0 ∷ [])) true (let p = frame_full in p.function 0) && (is_lawful_body 128 1 (slice_get (1 ∷ 0 ∷ [])) false (let p = frame_full in p.function 1) && true)) ≡ true
frame_full_lawful = refl

abbrev frame_full_data : List ℕ
frame_full_data = []

frame_full_runs :
    seen 97 (run frame_full 100000 1 (start 128 16 frame_full_data)) ≡
    record {
      end = Trapped 4;
      printed = [];
      reads = 3;
      writes = 11;
      bytes = (9 ∷ 0 ∷ 0 ∷ 0 ∷ 0 ∷ 0 ∷ 0 ∷ 0 ∷ 0 ∷ 0 ∷ 0 ∷ 0
          ∷ 0 ∷ 0 ∷ 0 ∷ 0 ∷ 8 ∷ 0 ∷ 0 ∷ 0 ∷ 0 ∷ 0 ∷ 0 ∷ 0 ∷ 0 ∷ 0 ∷ 0 ∷ 0 ∷ 0 ∷ 0 ∷ 0 ∷ 0 ∷ 7 ∷ 0 ∷ 0 ∷ 0 ∷ 0 ∷ 0 ∷ 0 ∷ 0 ∷ 0 ∷
          0 ∷ 0 ∷ 0 ∷ 0 ∷ 0 ∷ 0 ∷ 0 ∷ 6 ∷ 0 ∷ 0 ∷ 0 ∷ 0 ∷ 0 ∷ 0 ∷ 0 ∷ 0 ∷ 0 ∷ 0 ∷ 0 ∷ 0 ∷ 0 ∷ 0 ∷ 0 ∷ 5 ∷ 0 ∷ 0 ∷ 0 ∷ 0 ∷ 0 ∷ 0
          ∷ 0 ∷ 0 ∷ 0 ∷ 0 ∷ 0 ∷ 0 ∷ 0 ∷ 0 ∷ 0 ∷ 4 ∷ 0 ∷ 0 ∷ 0 ∷ 0 ∷ 0 ∷ 0 ∷ 0 ∷ 0 ∷ 0 ∷ 0 ∷ 0 ∷ 0 ∷ 0 ∷ 0 ∷ 0 ∷ 3 ∷ []);
      rest_is_zero = true;
    }
unfolding compared misplaced combined spelled most_bytes
frame_full_runs = refl

frame_full_works : nat_le (work_of (run frame_full 100000 1 (start 128 16 frame_full_data))) 633 ≡ true
unfolding compared misplaced combined spelled most_bytes
frame_full_works = refl

frame_full_reads : (nat_eq (wanted_reads frame_full (among ([] ∷ [] ∷ [])) 0) 0 && (nat_eq (wanted_reads frame_full (among ([] ∷ [] ∷
    [])) 1) 0 && true)) ≡ true
frame_full_reads = refl

frame_full_tests : (nat_eq (open_tests frame_full (among ([] ∷ [] ∷ [])) 0) 0 && (nat_eq (open_tests frame_full (among ([] ∷ [] ∷ [])) 1)
    0 && true)) ≡ true
frame_full_tests = refl

-- int*f(int n){int a[2];a[0]=n;a[1]=n+1;return a;}int h(int n){int b[2];int*p;b[0]=n;p=f(n*2);return p[0]+b[0]+(p-b);}int main(void){return h(5);}
abbrev frames_on_top : Program
frames_on_top = record { limit = 100; function = function } where
  addresses : ℕ → ℕ
  addresses k = slice_index [] k

  f0 : Function
  f0 = record {
    address = addresses;
    callee = λ g. g;
    parameters = (None ∷ []);
    frame = 8;
    body = (tree.Evaluate here (tree.Assign here kind.I32 (tree.AtAddress true (tree.Frame here 0)) (tree.Variable here 1))
        (tree.Evaluate here (tree.Assign here kind.I32 (tree.AtAddress true (tree.Frame here 4)) (tree.Binary here op.Add
        (tree.Variable here 1) (tree.Number 1))) (tree.Return here (Some (tree.Frame here 0)) tree.Done)));
  }

  f1 : Function
  f1 = record {
    address = addresses;
    callee = λ g. g;
    parameters = (None ∷ []);
    frame = 8;
    body = (tree.Evaluate here (tree.Assign here kind.I32 (tree.InVariable 2) (tree.Number 0)) (tree.Evaluate here
        (tree.Assign here kind.I32 (tree.AtAddress true (tree.Frame here 0)) (tree.Variable here 1)) (tree.Evaluate here
        (tree.Assign here kind.I32 (tree.InVariable 2) (tree.Call here 0 (tree.expression_then (tree.Binary here
        op.Multiply (tree.Variable here 1) (tree.Number 2)) tree.no_expressions))) (tree.Return here (Some (tree.Binary
        here op.Add (tree.Binary here op.Add (tree.Read here kind.I32 true (tree.Variable here 2)) (tree.Read here
        kind.I32 true (tree.Frame here 0))) (tree.Binary here op.DivideSigned (tree.Binary here op.Subtract (tree.Variable
        here 2) (tree.Frame here 0)) (tree.Number 4)))) tree.Done))));
  }

  f2 : Function
  f2 = record {
    address = addresses;
    callee = λ g. g;
    parameters = [];
    frame = 0;
    body = (tree.Evaluate here (tree.Exit here (tree.Call here 1 (tree.expression_then (tree.Number 5) tree.no_expressions)))
        tree.Done);
  }

  function : ℕ → Function
  function f = (if nat_eq f 0 then f0 else (if nat_eq f 1 then f1 else f2))

frames_on_top_lawful : (is_lawful_body 128 2 (slice_get (1 ∷ 1 ∷ 0 ∷ [])) true (let p = frames_on_top in p.function 0) && (is_lawful_body 128 3 (slice_get (1 ∷ 1 ∷ 0 ∷ [])) true (let p = frames_on_top in p.function 1) && (is_lawful_body 128 1 (slice_get (1 ∷ 1 ∷ 0 ∷ [])) false (let p = frames_on_top in p.function 2) && true))) ≡ true
frames_on_top_lawful = refl

abbrev frames_on_top_data : List ℕ
frames_on_top_data = []

frames_on_top_runs :
    seen 13 (run frames_on_top 100000 2 (start 128 16 frames_on_top_data)) ≡
    record {
      end = Halted 17;
      printed = [];
      reads = 2;
      writes = 3;
      bytes = (5 ∷ 0 ∷ 0 ∷ 0 ∷ 0 ∷ 0 ∷ 0 ∷ 0 ∷ 10 ∷ 0 ∷ 0 ∷ 0
          ∷ 11 ∷ []);
      rest_is_zero = true;
    }
unfolding compared misplaced combined spelled most_bytes
frames_on_top_runs = refl

frames_on_top_works : nat_le (work_of (run frames_on_top 100000 2 (start 128 16 frames_on_top_data))) 153 ≡ true
unfolding compared misplaced combined spelled most_bytes
frames_on_top_works = refl

frames_on_top_reads : (nat_eq (wanted_reads frames_on_top (among ((0 ∷ []) ∷ (2 ∷ []) ∷ [] ∷ [])) 0) 0 && (nat_eq (wanted_reads
    frames_on_top (among ((0 ∷ []) ∷ (2 ∷ []) ∷ [] ∷ [])) 1) 0 && (nat_eq (wanted_reads frames_on_top (among ((0 ∷ []) ∷
    (2 ∷ []) ∷ [] ∷ [])) 2) 0 && true))) ≡ true
frames_on_top_reads = refl

frames_on_top_tests : (nat_eq (open_tests frames_on_top (among ((0 ∷ []) ∷ (2 ∷ []) ∷ [] ∷ [])) 0) 0 && (nat_eq (open_tests frames_on_top
    (among ((0 ∷ []) ∷ (2 ∷ []) ∷ [] ∷ [])) 1) 0 && (nat_eq (open_tests frames_on_top (among ((0 ∷ []) ∷ (2 ∷ []) ∷ [] ∷
    [])) 2) 0 && true))) ≡ true
frames_on_top_tests = refl

-- int f(int x){if(x)return 5;}void h(void){return;}int main(void){h();if(f(0)==0&&f(1)==5)return f(1);}
abbrev fall_off : Program
fall_off = record { limit = 100; function = function } where
  addresses : ℕ → ℕ
  addresses k = slice_index [] k

  f0 : Function
  f0 = record {
    address = addresses;
    callee = λ g. g;
    parameters = (None ∷ []);
    frame = 0;
    body = (tree.If here (tree.Variable here 1) (tree.Return here (Some (tree.Number 5)) tree.Done) tree.Done tree.Done);
  }

  f1 : Function
  f1 = record {
    address = addresses;
    callee = λ g. g;
    parameters = [];
    frame = 0;
    body = (tree.Return here None tree.Done);
  }

  f2 : Function
  f2 = record {
    address = addresses;
    callee = λ g. g;
    parameters = [];
    frame = 0;
    body = (tree.Evaluate here (tree.Call here 1 tree.no_expressions) (tree.If here (tree.And here (tree.Compare here
        rel.Equal false (tree.Call here 0 (tree.expression_then (tree.Number 0) tree.no_expressions)) (tree.Number 0))
        (tree.Compare here rel.Equal false (tree.Call here 0 (tree.expression_then (tree.Number 1) tree.no_expressions))
        (tree.Number 5))) (tree.Evaluate here (tree.Exit here (tree.Call here 0 (tree.expression_then (tree.Number 1)
        tree.no_expressions))) tree.Done) tree.Done tree.Done));
  }

  function : ℕ → Function
  function f = (if nat_eq f 0 then f0 else (if nat_eq f 1 then f1 else f2))

fall_off_lawful : (is_lawful_body 128 2 (slice_get (1 ∷ 0 ∷ 0 ∷ [])) true (let p = fall_off in p.function 0) && (is_lawful_body 128 1 (slice_get (1 ∷ 0 ∷ 0 ∷ [])) true (let p = fall_off in p.function 1) && (is_lawful_body 128 1 (slice_get (1 ∷ 0 ∷ 0 ∷ [])) false (let p = fall_off in p.function 2) && true))) ≡ true
fall_off_lawful = refl

abbrev fall_off_data : List ℕ
fall_off_data = []

fall_off_runs :
    seen 0 (run fall_off 100000 2 (start 128 16 fall_off_data)) ≡
    record { end = Halted 5; printed = []; reads = 0; writes = 0; bytes = []; rest_is_zero = true }
unfolding compared misplaced combined spelled most_bytes
fall_off_runs = refl

fall_off_works : nat_le (work_of (run fall_off 100000 2 (start 128 16 fall_off_data))) 105 ≡ true
unfolding compared misplaced combined spelled most_bytes
fall_off_works = refl

fall_off_reads : (nat_eq (wanted_reads fall_off (among ([] ∷ [] ∷ [] ∷ [])) 0) 0 && (nat_eq (wanted_reads fall_off (among ([] ∷ [] ∷ []
    ∷ [])) 1) 0 && (nat_eq (wanted_reads fall_off (among ([] ∷ [] ∷ [] ∷ [])) 2) 0 && true))) ≡ true
fall_off_reads = refl

fall_off_tests : (nat_eq (open_tests fall_off (among ([] ∷ [] ∷ [] ∷ [])) 0) 0 && (nat_eq (open_tests fall_off (among ([] ∷ [] ∷ [] ∷
    [])) 1) 0 && (nat_eq (open_tests fall_off (among ([] ∷ [] ∷ [] ∷ [])) 2) 0 && true))) ≡ true
fall_off_tests = refl

-- #include <stdio.h>
-- void f(int x){if(x)return;putchar(102);}int main(void){f(1);f(0);(void)(f(0),1);return (f(1),4);}
abbrev void_calls : Program
void_calls = record { limit = 100; function = function } where
  addresses : ℕ → ℕ
  addresses k = slice_index [] k

  f0 : Function
  f0 = record {
    address = addresses;
    callee = λ g. g;
    parameters = (None ∷ []);
    frame = 0;
    body = (tree.If here (tree.Variable here 1) (tree.Return here None tree.Done) tree.Done (tree.Evaluate here (tree.Putchar
        here (tree.Number 102)) tree.Done));
  }

  f1 : Function
  f1 = record {
    address = addresses;
    callee = λ g. g;
    parameters = [];
    frame = 0;
    body = (tree.Evaluate here (tree.Call here 0 (tree.expression_then (tree.Number 1) tree.no_expressions)) (tree.Evaluate
        here (tree.Call here 0 (tree.expression_then (tree.Number 0) tree.no_expressions)) (tree.Evaluate here (tree.Comma
        (tree.Call here 0 (tree.expression_then (tree.Number 0) tree.no_expressions)) (tree.Number 1)) (tree.Evaluate here
        (tree.Exit here (tree.Comma (tree.Call here 0 (tree.expression_then (tree.Number 1) tree.no_expressions))
        (tree.Number 4))) tree.Done))));
  }

  function : ℕ → Function
  function f = (if nat_eq f 0 then f0 else f1)

void_calls_lawful : (is_lawful_body 128 2 (slice_get (1 ∷ 0 ∷ [])) true (let p = void_calls in p.function 0) && (is_lawful_body 128 1 (slice_get (1 ∷ 0 ∷ [])) false (let p = void_calls in p.function 1) && true)) ≡ true
void_calls_lawful = refl

abbrev void_calls_data : List ℕ
void_calls_data = []

void_calls_runs :
    seen 0 (run void_calls 100000 1 (start 128 16 void_calls_data)) ≡
    record {
      end = Halted 4;
      printed = (([] ++ spelled spell.Byte 102) ++ spelled spell.Byte 102);
      reads = 0;
      writes = 0;
      bytes = [];
      rest_is_zero = true;
    }
unfolding compared misplaced combined spelled most_bytes
void_calls_runs = refl

void_calls_works : nat_le (work_of (run void_calls 100000 1 (start 128 16 void_calls_data))) 141 ≡ true
unfolding compared misplaced combined spelled most_bytes
void_calls_works = refl

void_calls_reads : (nat_eq (wanted_reads void_calls (among ([] ∷ [] ∷ [])) 0) 0 && (nat_eq (wanted_reads void_calls (among ([] ∷ [] ∷
    [])) 1) 0 && true)) ≡ true
void_calls_reads = refl

void_calls_tests : (nat_eq (open_tests void_calls (among ([] ∷ [] ∷ [])) 0) 0 && (nat_eq (open_tests void_calls (among ([] ∷ [] ∷ [])) 1)
    0 && true)) ≡ true
void_calls_tests = refl

-- #include <stdio.h>
-- int add(int a,int b){return a+b;}int twice(int*p){*p=*p*2;return *p;}
-- int main(void){int v=3;printf("%d %d\n",add(twice(&v),add(v,twice(&v))),v);return 0;}
abbrev nested_calls : Program
nested_calls = record { limit = 100; function = function } where
  addresses : ℕ → ℕ
  addresses k = slice_index (16 ∷ []) k

  f0 : Function
  f0 = record {
    address = addresses;
    callee = λ g. g;
    parameters = (None ∷ None ∷ []);
    frame = 0;
    body = (tree.Return here (Some (tree.Binary here op.Add (tree.Variable here 1) (tree.Variable here 2))) tree.Done);
  }

  f1 : Function
  f1 = record {
    address = addresses;
    callee = λ g. g;
    parameters = (None ∷ []);
    frame = 0;
    body = (tree.Evaluate here (tree.Assign here kind.I32 (tree.AtAddress true (tree.Variable here 1)) (tree.Binary here
        op.Multiply (tree.Read here kind.I32 true (tree.Variable here 1)) (tree.Number 2))) (tree.Return here (Some
        (tree.Read here kind.I32 true (tree.Variable here 1))) tree.Done));
  }

  f2 : Function
  f2 = record {
    address = addresses;
    callee = λ g. g;
    parameters = [];
    frame = 4;
    body = (tree.Evaluate here (tree.Assign here kind.I32 (tree.AtAddress false (tree.Frame here 0)) (tree.Number 3))
        (tree.Print here (tree.expression_then (tree.Call here 0 (tree.expression_then (tree.Call here 1
        (tree.expression_then (tree.Frame here 0) tree.no_expressions)) (tree.expression_then (tree.Call here 0
        (tree.expression_then (tree.Read here kind.I32 false (tree.Frame here 0)) (tree.expression_then (tree.Call here 1
        (tree.expression_then (tree.Frame here 0) tree.no_expressions)) tree.no_expressions))) tree.no_expressions)))
        (tree.expression_then (tree.Read here kind.I32 false (tree.Frame here 0)) tree.no_expressions)) (piece.Word
        spell.Signed 0 ∷ piece.Byte 32 ∷ piece.Word spell.Signed 1 ∷ piece.Byte 10 ∷ []) (tree.Evaluate here (tree.Exit
        here (tree.Number 0)) tree.Done)));
  }

  function : ℕ → Function
  function f = (if nat_eq f 0 then f0 else (if nat_eq f 1 then f1 else f2))

nested_calls_lawful : (is_lawful_body 192 3 (slice_get (2 ∷ 1 ∷ 0 ∷ [])) true (let p = nested_calls in p.function 0) && (is_lawful_body 192 2 (slice_get (2 ∷ 1 ∷ 0 ∷ [])) true (let p = nested_calls in p.function 1) && (is_lawful_body 192 1 (slice_get (2 ∷ 1 ∷ 0 ∷ [])) false (let p = nested_calls in p.function 2) && true))) ≡ true
nested_calls_lawful = refl

abbrev nested_calls_data : List ℕ
nested_calls_data = (37 ∷ 100 ∷ 32 ∷ 37 ∷ 100 ∷ 10 ∷ 0 ∷ [])

nested_calls_runs :
    seen 9 (run nested_calls 100000 2 (start 192 24 nested_calls_data)) ≡
    record {
      end = Halted 0;
      printed = (((([] ++ spelled spell.Signed 24) ++ (32 ∷ [])) ++ spelled spell.Signed 12) ++ (10
          ∷ []));
      reads = 6;
      writes = 3;
      bytes = (37 ∷ 100 ∷ 32 ∷ 37 ∷ 100 ∷ 10 ∷ 0 ∷ 0 ∷ 12 ∷ []);
      rest_is_zero = true;
    }
unfolding compared misplaced combined spelled most_bytes
nested_calls_runs = refl

nested_calls_reads : (nat_eq (wanted_reads nested_calls (among ([] ∷ (1 ∷ []) ∷ [] ∷ [])) 0) 0 && (nat_eq (wanted_reads nested_calls (among
    ([] ∷ (1 ∷ []) ∷ [] ∷ [])) 1) 0 && true)) ≡ true
nested_calls_reads = refl

nested_calls_tests : (nat_eq (open_tests nested_calls (among ([] ∷ (1 ∷ []) ∷ [] ∷ [])) 0) 0 && (nat_eq (open_tests nested_calls (among ([]
    ∷ (1 ∷ []) ∷ [] ∷ [])) 1) 0 && (nat_eq (open_tests nested_calls (among ([] ∷ (1 ∷ []) ∷ [] ∷ [])) 2) 0 && true))) ≡ true
nested_calls_tests = refl

-- #include <stdio.h>
-- #include <stdlib.h>
-- int f(int a,int b,int c){return a*100+b*10+c;}int p(int x){putchar(48+x);return x;}int main(void){int r=f(p(1),p(2),p(3));r+=f(p(4),(exit(r),p(5)),p(6));return 1;}
abbrev arguments_in_order : Program
arguments_in_order = record { limit = 100; function = function } where
  addresses : ℕ → ℕ
  addresses k = slice_index [] k

  f0 : Function
  f0 = record {
    address = addresses;
    callee = λ g. g;
    parameters = (None ∷ None ∷ None ∷ []);
    frame = 0;
    body = (tree.Return here (Some (tree.Binary here op.Add (tree.Binary here op.Add (tree.Binary here op.Multiply
        (tree.Variable here 1) (tree.Number 100)) (tree.Binary here op.Multiply (tree.Variable here 2) (tree.Number 10)))
        (tree.Variable here 3))) tree.Done);
  }

  f1 : Function
  f1 = record {
    address = addresses;
    callee = λ g. g;
    parameters = (None ∷ []);
    frame = 0;
    body = (tree.Evaluate here (tree.Putchar here (tree.Binary here op.Add (tree.Number 48) (tree.Variable here 1)))
        (tree.Return here (Some (tree.Variable here 1)) tree.Done));
  }

  f2 : Function
  f2 = record {
    address = addresses;
    callee = λ g. g;
    parameters = [];
    frame = 0;
    body = (tree.Evaluate here (tree.Assign here kind.I32 (tree.InVariable 1) (tree.Call here 0 (tree.expression_then
        (tree.Call here 1 (tree.expression_then (tree.Number 1) tree.no_expressions)) (tree.expression_then (tree.Call
        here 1 (tree.expression_then (tree.Number 2) tree.no_expressions)) (tree.expression_then (tree.Call here 1
        (tree.expression_then (tree.Number 3) tree.no_expressions)) tree.no_expressions))))) (tree.Evaluate here
        (tree.Update here kind.I32 (tree.InVariable 1) op.Add (tree.Call here 0 (tree.expression_then (tree.Call here 1
        (tree.expression_then (tree.Number 4) tree.no_expressions)) (tree.expression_then (tree.Comma (tree.Exit here
        (tree.Variable here 1)) (tree.Call here 1 (tree.expression_then (tree.Number 5) tree.no_expressions)))
        (tree.expression_then (tree.Call here 1 (tree.expression_then (tree.Number 6) tree.no_expressions))
        tree.no_expressions))))) (tree.Evaluate here (tree.Exit here (tree.Number 1)) tree.Done)));
  }

  function : ℕ → Function
  function f = (if nat_eq f 0 then f0 else (if nat_eq f 1 then f1 else f2))

arguments_in_order_lawful : (is_lawful_body 128 4 (slice_get (3 ∷ 1 ∷ 0 ∷ [])) true (let p = arguments_in_order in p.function 0) && (is_lawful_body 128 2 (slice_get (3 ∷ 1 ∷ 0 ∷ [])) true (let p = arguments_in_order in p.function 1) && (is_lawful_body 128 2 (slice_get (3 ∷ 1 ∷ 0 ∷ [])) false (let p = arguments_in_order in p.function 2) && true))) ≡ true
arguments_in_order_lawful = refl

abbrev arguments_in_order_data : List ℕ
arguments_in_order_data = []

arguments_in_order_runs :
    seen 0 (run arguments_in_order 100000 2 (start 128 16 arguments_in_order_data)) ≡
    record {
      end = Halted 123;
      printed = (((([] ++ spelled spell.Byte 49) ++ spelled spell.Byte 50) ++ spelled spell.Byte
          51) ++ spelled spell.Byte 52);
      reads = 0;
      writes = 0;
      bytes = [];
      rest_is_zero = true;
    }
unfolding compared misplaced combined spelled most_bytes
arguments_in_order_runs = refl

arguments_in_order_works : nat_le (work_of (run arguments_in_order 100000 2 (start 128 16 arguments_in_order_data))) 261 ≡ true
unfolding compared misplaced combined spelled most_bytes
arguments_in_order_works = refl

arguments_in_order_reads : (nat_eq (wanted_reads arguments_in_order (among ([] ∷ [] ∷ [] ∷ [])) 0) 0 && (nat_eq (wanted_reads arguments_in_order
    (among ([] ∷ [] ∷ [] ∷ [])) 1) 0 && (nat_eq (wanted_reads arguments_in_order (among ([] ∷ [] ∷ [] ∷ [])) 2) 0 &&
    true))) ≡ true
arguments_in_order_reads = refl

arguments_in_order_tests : (nat_eq (open_tests arguments_in_order (among ([] ∷ [] ∷ [] ∷ [])) 0) 0 && (nat_eq (open_tests arguments_in_order
    (among ([] ∷ [] ∷ [] ∷ [])) 1) 0 && (nat_eq (open_tests arguments_in_order (among ([] ∷ [] ∷ [] ∷ [])) 2) 0 && true))) ≡ true
arguments_in_order_tests = refl

-- void set(int*p,int x){*p=x;}char f(char c,short s){set((int*)0+5,1);s+=c;{char*q=&c;*q+=s;}return c;}
-- int a;int b[4];int main(void){return f(200,100)+b[0];}
abbrev addressed_parameter : Program
addressed_parameter = record { limit = 100; function = function } where
  addresses : ℕ → ℕ
  addresses k = slice_index (16 ∷ 20 ∷ []) k

  f0 : Function
  f0 = record {
    address = addresses;
    callee = λ g. g;
    parameters = (None ∷ None ∷ []);
    frame = 0;
    body = (tree.Evaluate here (tree.Assign here kind.I32 (tree.AtAddress true (tree.Variable here 1)) (tree.Variable here
        2)) tree.Done);
  }

  f1 : Function
  f1 = record {
    address = addresses;
    callee = λ g. g;
    parameters = ((Some (record { offset = 0; width = width.B1 })) ∷ None ∷ []);
    frame = 4;
    body = (tree.Evaluate here (tree.Call here 0 (tree.expression_then (tree.Number 20) (tree.expression_then (tree.Number 1)
        tree.no_expressions))) (tree.Evaluate here (tree.Update here kind.I16 (tree.InVariable 2) op.Add (tree.Read here
        kind.U8 false (tree.Frame here 0))) (tree.Evaluate here (tree.Assign here kind.I32 (tree.InVariable 3) (tree.Frame
        here 0)) (tree.Evaluate here (tree.Update here kind.U8 (tree.AtAddress true (tree.Variable here 3)) op.Add
        (tree.Variable here 2)) (tree.Return here (Some (tree.Read here kind.U8 false (tree.Frame here 0))) tree.Done)))));
  }

  f2 : Function
  f2 = record {
    address = addresses;
    callee = λ g. g;
    parameters = [];
    frame = 0;
    body = (tree.Evaluate here (tree.Exit here (tree.Binary here op.Add (tree.Call here 1 (tree.expression_then (tree.Number
        200) (tree.expression_then (tree.Number 100) tree.no_expressions))) (tree.Read here kind.I32 true (tree.Address 1
        0)))) tree.Done);
  }

  function : ℕ → Function
  function f = (if nat_eq f 0 then f0 else (if nat_eq f 1 then f1 else f2))

addressed_parameter_lawful : (is_lawful_body 192 3 (slice_get (2 ∷ 2 ∷ 0 ∷ [])) true (let p = addressed_parameter in p.function 0) && (is_lawful_body 192 4 (slice_get (2 ∷ 2 ∷ 0 ∷ [])) true (let p = addressed_parameter in p.function 1) && (is_lawful_body 192 1 (slice_get (2 ∷ 2 ∷ 0 ∷ [])) false (let p = addressed_parameter in p.function 2) && true))) ≡ true
addressed_parameter_lawful = refl

abbrev addressed_parameter_data : List ℕ
addressed_parameter_data = (0 ∷ 0 ∷ 0 ∷ 0 ∷ 0 ∷ 0 ∷ 0 ∷ 0 ∷ 0 ∷ 0 ∷ 0 ∷ 0 ∷ 0 ∷ 0 ∷ 0 ∷ 0 ∷ 0 ∷ 0 ∷ 0 ∷ 0 ∷ [])

addressed_parameter_runs :
    seen 21 (run addressed_parameter 100000 2 (start 192 36 addressed_parameter_data)) ≡
    record {
      end = Halted 245;
      printed = [];
      reads = 4;
      writes = 3;
      bytes = (0 ∷ 0 ∷ 0 ∷ 0 ∷ 1 ∷ 0 ∷ 0 ∷ 0 ∷ 0 ∷ 0 ∷ 0 ∷ 0
          ∷ 0 ∷ 0 ∷ 0 ∷ 0 ∷ 0 ∷ 0 ∷ 0 ∷ 0 ∷ 244 ∷ []);
      rest_is_zero = true;
    }
unfolding compared misplaced combined spelled most_bytes
addressed_parameter_runs = refl

addressed_parameter_works : nat_le (work_of (run addressed_parameter 100000 2 (start 192 36 addressed_parameter_data))) 129 ≡ true
unfolding compared misplaced combined spelled most_bytes
addressed_parameter_works = refl

addressed_parameter_reads : (nat_eq (wanted_reads addressed_parameter (among ((1 ∷ []) ∷ (3 ∷ []) ∷ [] ∷ [])) 0) 0 && (nat_eq (wanted_reads
    addressed_parameter (among ((1 ∷ []) ∷ (3 ∷ []) ∷ [] ∷ [])) 2) 0 && true)) ≡ true
addressed_parameter_reads = refl

addressed_parameter_tests : (nat_eq (open_tests addressed_parameter (among ((1 ∷ []) ∷ (3 ∷ []) ∷ [] ∷ [])) 0) 0 && (nat_eq (open_tests
    addressed_parameter (among ((1 ∷ []) ∷ (3 ∷ []) ∷ [] ∷ [])) 1) 0 && (nat_eq (open_tests addressed_parameter (among ((1
    ∷ []) ∷ (3 ∷ []) ∷ [] ∷ [])) 2) 0 && true))) ≡ true
addressed_parameter_tests = refl

-- int f(char a,int b,short c){int*q=&b;char*p=&a;short*r=&c;*p+=1;*q+=2;*r+=3;return a+b+c+(int)((char*)q-p)+(int)((char*)r-p);}int main(void){return f(255,10,-1);}
abbrev parameters_in_frame : Program
parameters_in_frame = record { limit = 100; function = function } where
  addresses : ℕ → ℕ
  addresses k = slice_index [] k

  f0 : Function
  f0 = record {
    address = addresses;
    callee = λ g. g;
    parameters = ((Some (record { offset = 0; width = width.B1 })) ∷ (Some (record { offset = 4; width = width.B4 })) ∷ (Some (record { offset = 8; width = width.B2 })) ∷ []);
    frame = 12;
    body = (tree.Evaluate here (tree.Assign here kind.I32 (tree.InVariable 4) (tree.Frame here 4)) (tree.Evaluate here
        (tree.Assign here kind.I32 (tree.InVariable 5) (tree.Frame here 0)) (tree.Evaluate here (tree.Assign here kind.I32
        (tree.InVariable 6) (tree.Frame here 8)) (tree.Evaluate here (tree.Update here kind.U8 (tree.AtAddress true
        (tree.Variable here 5)) op.Add (tree.Number 1)) (tree.Evaluate here (tree.Update here kind.I32 (tree.AtAddress
        true (tree.Variable here 4)) op.Add (tree.Number 2)) (tree.Evaluate here (tree.Update here kind.I16
        (tree.AtAddress true (tree.Variable here 6)) op.Add (tree.Number 3)) (tree.Return here (Some (tree.Binary here
        op.Add (tree.Binary here op.Add (tree.Binary here op.Add (tree.Binary here op.Add (tree.Read here kind.U8 false
        (tree.Frame here 0)) (tree.Read here kind.I32 false (tree.Frame here 4))) (tree.Read here kind.I16 false
        (tree.Frame here 8))) (tree.Binary here op.Subtract (tree.Variable here 4) (tree.Variable here 5))) (tree.Binary
        here op.Subtract (tree.Variable here 6) (tree.Variable here 5)))) tree.Done)))))));
  }

  f1 : Function
  f1 = record {
    address = addresses;
    callee = λ g. g;
    parameters = [];
    frame = 0;
    body = (tree.Evaluate here (tree.Exit here (tree.Call here 0 (tree.expression_then (tree.Number 255)
        (tree.expression_then (tree.Number 10) (tree.expression_then (tree.Number 4294967295) tree.no_expressions)))))
        tree.Done);
  }

  function : ℕ → Function
  function f = (if nat_eq f 0 then f0 else f1)

parameters_in_frame_lawful : (is_lawful_body 128 7 (slice_get (3 ∷ 0 ∷ [])) true (let p = parameters_in_frame in p.function 0) && (is_lawful_body 128 1 (slice_get (3 ∷ 0 ∷ [])) false (let p = parameters_in_frame in p.function 1) && true)) ≡ true
parameters_in_frame_lawful = refl

abbrev parameters_in_frame_data : List ℕ
parameters_in_frame_data = []

parameters_in_frame_runs :
    seen 9 (run parameters_in_frame 100000 1 (start 128 16 parameters_in_frame_data)) ≡
    record {
      end = Halted 26;
      printed = [];
      reads = 6;
      writes = 6;
      bytes = (0 ∷ 0 ∷ 0 ∷ 0 ∷ 12 ∷ 0 ∷ 0 ∷ 0 ∷ 2 ∷ []);
      rest_is_zero = true;
    }
unfolding compared misplaced combined spelled most_bytes
parameters_in_frame_runs = refl

parameters_in_frame_works : nat_le (work_of (run parameters_in_frame 100000 1 (start 128 16 parameters_in_frame_data))) 162 ≡ true
unfolding compared misplaced combined spelled most_bytes
parameters_in_frame_works = refl

parameters_in_frame_reads : (nat_eq (wanted_reads parameters_in_frame (among ((4 ∷ 5 ∷ 6 ∷ []) ∷ [] ∷ [])) 1) 0 && true) ≡ true
parameters_in_frame_reads = refl

parameters_in_frame_tests : (nat_eq (open_tests parameters_in_frame (among ((4 ∷ 5 ∷ 6 ∷ []) ∷ [] ∷ [])) 0) 0 && (nat_eq (open_tests
    parameters_in_frame (among ((4 ∷ 5 ∷ 6 ∷ []) ∷ [] ∷ [])) 1) 0 && true)) ≡ true
parameters_in_frame_tests = refl

-- #include <stdio.h>
-- int odd(int n);int even(int n){return n?odd(n-1):1;}int odd(int n){return n?even(n-1):0;}int fib(int n){return n<2?n:fib(n-1)+fib(n-2);}int main(void){return fib(9)*100+even(7)*10+odd(7);}
abbrev mutual_recursion : Program
mutual_recursion = record { limit = 100; function = function } where
  addresses : ℕ → ℕ
  addresses k = slice_index [] k

  f0 : Function
  f0 = record {
    address = addresses;
    callee = λ g. g;
    parameters = (None ∷ []);
    frame = 0;
    body = (tree.Return here (Some (tree.Conditional here (tree.Variable here 1) (tree.Call here 1 (tree.expression_then
        (tree.Binary here op.Subtract (tree.Variable here 1) (tree.Number 1)) tree.no_expressions)) (tree.Number 1)))
        tree.Done);
  }

  f1 : Function
  f1 = record {
    address = addresses;
    callee = λ g. g;
    parameters = (None ∷ []);
    frame = 0;
    body = (tree.Return here (Some (tree.Conditional here (tree.Variable here 1) (tree.Call here 0 (tree.expression_then
        (tree.Binary here op.Subtract (tree.Variable here 1) (tree.Number 1)) tree.no_expressions)) (tree.Number 0)))
        tree.Done);
  }

  f2 : Function
  f2 = record {
    address = addresses;
    callee = λ g. g;
    parameters = (None ∷ []);
    frame = 0;
    body = (tree.Return here (Some (tree.Conditional here (tree.Compare here rel.LessSigned false (tree.Variable here 1)
        (tree.Number 2)) (tree.Variable here 1) (tree.Binary here op.Add (tree.Call here 2 (tree.expression_then
        (tree.Binary here op.Subtract (tree.Variable here 1) (tree.Number 1)) tree.no_expressions)) (tree.Call here 2
        (tree.expression_then (tree.Binary here op.Subtract (tree.Variable here 1) (tree.Number 2))
        tree.no_expressions))))) tree.Done);
  }

  f3 : Function
  f3 = record {
    address = addresses;
    callee = λ g. g;
    parameters = [];
    frame = 0;
    body = (tree.Evaluate here (tree.Exit here (tree.Binary here op.Add (tree.Binary here op.Add (tree.Binary here
        op.Multiply (tree.Call here 2 (tree.expression_then (tree.Number 9) tree.no_expressions)) (tree.Number 100))
        (tree.Binary here op.Multiply (tree.Call here 0 (tree.expression_then (tree.Number 7) tree.no_expressions))
        (tree.Number 10))) (tree.Call here 1 (tree.expression_then (tree.Number 7) tree.no_expressions)))) tree.Done);
  }

  function : ℕ → Function
  function f = (if nat_eq f 0 then f0 else (if nat_eq f 1 then f1 else (if nat_eq f 2 then f2 else f3)))

mutual_recursion_lawful : (is_lawful_body 128 2 (slice_get (1 ∷ 1 ∷ 1 ∷ 0 ∷ [])) true (let p = mutual_recursion in p.function 0) && (is_lawful_body 128 2 (slice_get (1 ∷ 1 ∷ 1 ∷ 0 ∷ [])) true (let p = mutual_recursion in p.function 1) && (is_lawful_body 128 2 (slice_get (1 ∷ 1 ∷ 1 ∷ 0 ∷ [])) true (let p = mutual_recursion in p.function 2) && (is_lawful_body 128 1 (slice_get (1 ∷ 1 ∷ 1 ∷ 0 ∷ [])) false (let p = mutual_recursion in p.function 3) && true)))) ≡ true
mutual_recursion_lawful = refl

abbrev mutual_recursion_data : List ℕ
mutual_recursion_data = []

mutual_recursion_runs :
    seen 0 (run mutual_recursion 100000 3 (start 128 16 mutual_recursion_data)) ≡
    record { end = Halted 3401; printed = []; reads = 0; writes = 0; bytes = []; rest_is_zero = true }
unfolding compared misplaced combined spelled most_bytes
mutual_recursion_runs = refl

mutual_recursion_works : nat_le (work_of (run mutual_recursion 100000 3 (start 128 16 mutual_recursion_data))) 4371 ≡ true
unfolding compared misplaced combined spelled most_bytes
mutual_recursion_works = refl

mutual_recursion_reads : (nat_eq (wanted_reads mutual_recursion (among ([] ∷ [] ∷ [] ∷ [] ∷ [])) 0) 0 && (nat_eq (wanted_reads mutual_recursion
    (among ([] ∷ [] ∷ [] ∷ [] ∷ [])) 1) 0 && (nat_eq (wanted_reads mutual_recursion (among ([] ∷ [] ∷ [] ∷ [] ∷ [])) 2) 0
    && (nat_eq (wanted_reads mutual_recursion (among ([] ∷ [] ∷ [] ∷ [] ∷ [])) 3) 0 && true)))) ≡ true
mutual_recursion_reads = refl

mutual_recursion_tests : (nat_eq (open_tests mutual_recursion (among ([] ∷ [] ∷ [] ∷ [] ∷ [])) 0) 0 && (nat_eq (open_tests mutual_recursion
    (among ([] ∷ [] ∷ [] ∷ [] ∷ [])) 1) 0 && (nat_eq (open_tests mutual_recursion (among ([] ∷ [] ∷ [] ∷ [] ∷ [])) 2) 0 &&
    (nat_eq (open_tests mutual_recursion (among ([] ∷ [] ∷ [] ∷ [] ∷ [])) 3) 0 && true)))) ≡ true
mutual_recursion_tests = refl

-- #include <stdio.h>
-- #include <stdlib.h>
-- int f(int x){if(x>2)exit(x*7);return f(x+1);}int main(void){putchar('q');return f(0);}
abbrev abort_exit : Program
abort_exit = record { limit = 100; function = function } where
  addresses : ℕ → ℕ
  addresses k = slice_index [] k

  f0 : Function
  f0 = record {
    address = addresses;
    callee = λ g. g;
    parameters = (None ∷ []);
    frame = 0;
    body = (tree.If here (tree.Compare here rel.LessSigned true (tree.Variable here 1) (tree.Number 2)) (tree.Evaluate here
        (tree.Exit here (tree.Binary here op.Multiply (tree.Variable here 1) (tree.Number 7))) tree.Done) tree.Done
        (tree.Return here (Some (tree.Call here 0 (tree.expression_then (tree.Binary here op.Add (tree.Variable here 1)
        (tree.Number 1)) tree.no_expressions))) tree.Done));
  }

  f1 : Function
  f1 = record {
    address = addresses;
    callee = λ g. g;
    parameters = [];
    frame = 0;
    body = (tree.Evaluate here (tree.Putchar here (tree.Number 113)) (tree.Evaluate here (tree.Exit here (tree.Call here 0
        (tree.expression_then (tree.Number 0) tree.no_expressions))) tree.Done));
  }

  function : ℕ → Function
  function f = (if nat_eq f 0 then f0 else f1)

abort_exit_lawful : (is_lawful_body 128 2 (slice_get (1 ∷ 0 ∷ [])) true (let p = abort_exit in p.function 0) && (is_lawful_body 128 1 (slice_get (1 ∷ 0 ∷ [])) false (let p = abort_exit in p.function 1) && true)) ≡ true
abort_exit_lawful = refl

abbrev abort_exit_data : List ℕ
abort_exit_data = []

abort_exit_runs :
    seen 0 (run abort_exit 100000 1 (start 128 16 abort_exit_data)) ≡
    record {
      end = Halted 21;
      printed = ([] ++ spelled spell.Byte 113);
      reads = 0;
      writes = 0;
      bytes = [];
      rest_is_zero =
          true;
    }
unfolding compared misplaced combined spelled most_bytes
abort_exit_runs = refl

abort_exit_works : nat_le (work_of (run abort_exit 100000 1 (start 128 16 abort_exit_data))) 165 ≡ true
unfolding compared misplaced combined spelled most_bytes
abort_exit_works = refl

abort_exit_reads : (nat_eq (wanted_reads abort_exit (among ([] ∷ [] ∷ [])) 0) 0 && (nat_eq (wanted_reads abort_exit (among ([] ∷ [] ∷
    [])) 1) 0 && true)) ≡ true
abort_exit_reads = refl

abort_exit_tests : (nat_eq (open_tests abort_exit (among ([] ∷ [] ∷ [])) 0) 0 && (nat_eq (open_tests abort_exit (among ([] ∷ [] ∷ [])) 1)
    0 && true)) ≡ true
abort_exit_tests = refl

-- int n=5;
-- #include <stdio.h>
-- extern int n;int main(void){printf("%d\n",n);return 0;}
abbrev two_files : Program
two_files = record { limit = 100; function = function } where
  addresses : ℕ → ℕ
  addresses k = slice_index (16 ∷ 20 ∷ []) k

  f0 : Function
  f0 = record {
    address = addresses;
    callee = λ g. g;
    parameters = [];
    frame = 0;
    body = (tree.Print here (tree.expression_then (tree.Read here kind.I32 false (tree.Address 0 0)) tree.no_expressions)
        (piece.Word spell.Signed 0 ∷ piece.Byte 10 ∷ []) (tree.Evaluate here (tree.Exit here (tree.Number 0)) tree.Done));
  }

  function : ℕ → Function
  function f = f0

two_files_lawful : (is_lawful_body 128 1 (slice_get (0 ∷ [])) false (let p = two_files in p.function 0) && true) ≡ true
two_files_lawful = refl

abbrev two_files_data : List ℕ
two_files_data = (5 ∷ 0 ∷ 0 ∷ 0 ∷ 37 ∷ 100 ∷ 10 ∷ 0 ∷ [])

two_files_runs :
    seen 7 (run two_files 100000 0 (start 128 24 two_files_data)) ≡
    record {
      end = Halted 0;
      printed = (([] ++ spelled spell.Signed 5) ++ (10 ∷ []));
      reads = 1;
      writes = 0;
      bytes = (5 ∷
          0 ∷ 0 ∷ 0 ∷ 37 ∷ 100 ∷ 10 ∷ []);
      rest_is_zero = true;
    }
unfolding compared misplaced combined spelled most_bytes
two_files_runs = refl

two_files_reads : (nat_eq (wanted_reads two_files (among ([] ∷ [])) 0) 0 && true) ≡ true
two_files_reads = refl

two_files_tests : (nat_eq (open_tests two_files (among ([] ∷ [])) 0) 0 && true) ≡ true
two_files_tests = refl

-- /* inventory.c: a small example */
-- #include <stdio.h>
-- #include <stdlib.h>
--
-- #define ROWS 2
-- #define COLS 3
-- #define LAST (COLS - 1)
--
-- struct node {
--     int value;
--     struct node *next;
-- };
--
-- static int left[ROWS][COLS] = { { 1, 2, 3 }, { 4, 5, 6 } };
-- static int right[COLS][ROWS] = { { 7, 8 }, { 9, 10 }, { 11, 12 } };
-- static int product[ROWS][ROWS];
-- static struct node cells[5];
--
-- static void multiply(void)
-- {
--     int i, j, k;
--     for (i = 0; i < ROWS; i++)
--         for (j = 0; j < ROWS; j++) {
--             product[i][j] = 0;
--             for (k = 0; k < COLS; k++)
--                 product[i][j] += left[i][k] * right[k][j];
--         }
-- }
--
-- static struct node *chain(int n)
-- {
--     int i;
--     for (i = 0; i < n; i++) {
--         cells[i].value = i * i;
--         cells[i].next = i + 1 < n ? &cells[i + 1] : NULL;
--     }
--     return cells;
-- }
--
-- static int total(const struct node *p)
-- {
--     int sum = 0;
--     while (p != NULL) {
--         sum += p->value;
--         p = p->next;
--     }
--     return sum;
-- }
--
-- static int common(int a, int b)
-- {
--     return b == 0 ? a : common(b, a % b);
-- }
--
-- int main(void)
-- {
--     multiply();
--     printf("%d %d\n", product[0][0], product[0][1]);
--     printf("%d %d\n", product[1][0], product[1][1]);
--     printf("total %d\n", total(chain(5)));
--     printf("common %d last %d\n", common(84, 36), left[1][LAST]);
--     if (product[0][0] < 0)
--         exit(EXIT_FAILURE);
--     return 0;
-- }
abbrev inventory : Program
inventory = record { limit = 100; function = function } where
  addresses : ℕ → ℕ
  addresses k = slice_index (16 ∷ 40 ∷ 64 ∷ 80 ∷ 120 ∷ 127 ∷ 134 ∷ 144 ∷ []) k

  f0 : Function
  f0 = record {
    address = addresses;
    callee = λ g. g;
    parameters = [];
    frame = 0;
    body = (tree.Evaluate here (tree.Assign here kind.I32 (tree.InVariable 1) (tree.Number 0)) (tree.Evaluate here
        (tree.Assign here kind.I32 (tree.InVariable 2) (tree.Number 0)) (tree.Evaluate here (tree.Assign here kind.I32
        (tree.InVariable 3) (tree.Number 0)) (tree.Evaluate here (tree.Assign here kind.I32 (tree.InVariable 1)
        (tree.Number 0)) (tree.Loop here (Some (tree.Compare here rel.LessSigned false (tree.Variable here 1) (tree.Number
        2))) (tree.Evaluate here (tree.Assign here kind.I32 (tree.InVariable 2) (tree.Number 0)) (tree.Loop here (Some
        (tree.Compare here rel.LessSigned false (tree.Variable here 2) (tree.Number 2))) (tree.Evaluate here (tree.Assign
        here kind.I32 (tree.AtAddress true (tree.Binary here op.Add (tree.Binary here op.Add (tree.Address 2 0)
        (tree.Binary here op.Multiply (tree.Variable here 1) (tree.Number 8))) (tree.Binary here op.Multiply
        (tree.Variable here 2) (tree.Number 4)))) (tree.Number 0)) (tree.Evaluate here (tree.Assign here kind.I32
        (tree.InVariable 3) (tree.Number 0)) (tree.Loop here (Some (tree.Compare here rel.LessSigned false (tree.Variable
        here 3) (tree.Number 3))) (tree.Evaluate here (tree.Update here kind.I32 (tree.AtAddress true (tree.Binary here
        op.Add (tree.Binary here op.Add (tree.Address 2 0) (tree.Binary here op.Multiply (tree.Variable here 1)
        (tree.Number 8))) (tree.Binary here op.Multiply (tree.Variable here 2) (tree.Number 4)))) op.Add (tree.Binary here
        op.Multiply (tree.Read here kind.I32 true (tree.Binary here op.Add (tree.Binary here op.Add (tree.Address 0 0)
        (tree.Binary here op.Multiply (tree.Variable here 1) (tree.Number 12))) (tree.Binary here op.Multiply
        (tree.Variable here 3) (tree.Number 4)))) (tree.Read here kind.I32 true (tree.Binary here op.Add (tree.Binary here
        op.Add (tree.Address 1 0) (tree.Binary here op.Multiply (tree.Variable here 3) (tree.Number 8))) (tree.Binary here
        op.Multiply (tree.Variable here 2) (tree.Number 4)))))) tree.Done) (Some (tree.Step here kind.I32 (tree.InVariable
        3) 1 false)) tree.Done))) (Some (tree.Step here kind.I32 (tree.InVariable 2) 1 false)) tree.Done)) (Some
        (tree.Step here kind.I32 (tree.InVariable 1) 1 false)) tree.Done)))));
  }

  f1 : Function
  f1 = record {
    address = addresses;
    callee = λ g. g;
    parameters = (None ∷ []);
    frame = 0;
    body = (tree.Evaluate here (tree.Assign here kind.I32 (tree.InVariable 2) (tree.Number 0)) (tree.Evaluate here
        (tree.Assign here kind.I32 (tree.InVariable 2) (tree.Number 0)) (tree.Loop here (Some (tree.Compare here
        rel.LessSigned false (tree.Variable here 2) (tree.Variable here 1))) (tree.Evaluate here (tree.Assign here
        kind.I32 (tree.AtAddress true (tree.Binary here op.Add (tree.Address 3 0) (tree.Binary here op.Multiply
        (tree.Variable here 2) (tree.Number 8)))) (tree.Binary here op.Multiply (tree.Variable here 2) (tree.Variable here
        2))) (tree.Evaluate here (tree.Assign here kind.I32 (tree.AtAddress true (tree.Binary here op.Add (tree.Binary
        here op.Add (tree.Address 3 0) (tree.Binary here op.Multiply (tree.Variable here 2) (tree.Number 8))) (tree.Number
        4))) (tree.Conditional here (tree.Compare here rel.LessSigned false (tree.Binary here op.Add (tree.Variable here
        2) (tree.Number 1)) (tree.Variable here 1)) (tree.Binary here op.Add (tree.Address 3 0) (tree.Binary here
        op.Multiply (tree.Binary here op.Add (tree.Variable here 2) (tree.Number 1)) (tree.Number 8))) (tree.Number 0)))
        tree.Done)) (Some (tree.Step here kind.I32 (tree.InVariable 2) 1 false)) (tree.Return here (Some (tree.Address 3
        0)) tree.Done))));
  }

  f2 : Function
  f2 = record {
    address = addresses;
    callee = λ g. g;
    parameters = (None ∷ []);
    frame = 0;
    body = (tree.Evaluate here (tree.Assign here kind.I32 (tree.InVariable 2) (tree.Number 0)) (tree.Loop here (Some
        (tree.Compare here rel.NotEqual false (tree.Variable here 1) (tree.Number 0))) (tree.Evaluate here (tree.Update
        here kind.I32 (tree.InVariable 2) op.Add (tree.Read here kind.I32 true (tree.Variable here 1))) (tree.Evaluate
        here (tree.Assign here kind.I32 (tree.InVariable 1) (tree.Read here kind.I32 true (tree.Binary here op.Add
        (tree.Variable here 1) (tree.Number 4)))) tree.Done)) None (tree.Return here (Some (tree.Variable here 2))
        tree.Done)));
  }

  f3 : Function
  f3 = record {
    address = addresses;
    callee = λ g. g;
    parameters = (None ∷ None ∷ []);
    frame = 0;
    body = (tree.Return here (Some (tree.Conditional here (tree.Compare here rel.Equal false (tree.Variable here 2)
        (tree.Number 0)) (tree.Variable here 1) (tree.Call here 3 (tree.expression_then (tree.Variable here 2)
        (tree.expression_then (tree.Binary here op.RemainderSigned (tree.Variable here 1) (tree.Variable here 2))
        tree.no_expressions))))) tree.Done);
  }

  f4 : Function
  f4 = record {
    address = addresses;
    callee = λ g. g;
    parameters = [];
    frame = 0;
    body = (tree.Evaluate here (tree.Call here 0 tree.no_expressions) (tree.Print here (tree.expression_then (tree.Read here
        kind.I32 true (tree.Address 2 0)) (tree.expression_then (tree.Read here kind.I32 true (tree.Address 2 4))
        tree.no_expressions)) (piece.Word spell.Signed 0 ∷ piece.Byte 32 ∷ piece.Word spell.Signed 1 ∷ piece.Byte 10 ∷ [])
        (tree.Print here (tree.expression_then (tree.Read here kind.I32 true (tree.Address 2 8)) (tree.expression_then
        (tree.Read here kind.I32 true (tree.Address 2 12)) tree.no_expressions)) (piece.Word spell.Signed 0 ∷ piece.Byte
        32 ∷ piece.Word spell.Signed 1 ∷ piece.Byte 10 ∷ []) (tree.Print here (tree.expression_then (tree.Call here 2
        (tree.expression_then (tree.Call here 1 (tree.expression_then (tree.Number 5) tree.no_expressions))
        tree.no_expressions)) tree.no_expressions) (piece.Byte 116 ∷ piece.Byte 111 ∷ piece.Byte 116 ∷ piece.Byte 97 ∷
        piece.Byte 108 ∷ piece.Byte 32 ∷ piece.Word spell.Signed 0 ∷ piece.Byte 10 ∷ []) (tree.Print here
        (tree.expression_then (tree.Call here 3 (tree.expression_then (tree.Number 84) (tree.expression_then (tree.Number
        36) tree.no_expressions))) (tree.expression_then (tree.Read here kind.I32 true (tree.Address 0 20))
        tree.no_expressions)) (piece.Byte 99 ∷ piece.Byte 111 ∷ piece.Byte 109 ∷ piece.Byte 109 ∷ piece.Byte 111 ∷
        piece.Byte 110 ∷ piece.Byte 32 ∷ piece.Word spell.Signed 0 ∷ piece.Byte 32 ∷ piece.Byte 108 ∷ piece.Byte 97 ∷
        piece.Byte 115 ∷ piece.Byte 116 ∷ piece.Byte 32 ∷ piece.Word spell.Signed 1 ∷ piece.Byte 10 ∷ []) (tree.If here
        (tree.Compare here rel.LessSigned false (tree.Read here kind.I32 true (tree.Address 2 0)) (tree.Number 0))
        (tree.Evaluate here (tree.Exit here (tree.Number 1)) tree.Done) tree.Done (tree.Evaluate here (tree.Exit here
        (tree.Number 0)) tree.Done)))))));
  }

  function : ℕ → Function
  function f = (if nat_eq f 0 then f0 else (if nat_eq f 1 then f1 else (if nat_eq f 2 then f2 else (if nat_eq f 3 then f3 else f4))))

inventory_lawful : (is_lawful_body 320 4 (slice_get (0 ∷ 1 ∷ 1 ∷ 2 ∷ 0 ∷ [])) true (let p = inventory in p.function 0) && (is_lawful_body 320 3 (slice_get (0 ∷ 1 ∷ 1 ∷ 2 ∷ 0 ∷ [])) true (let p = inventory in p.function 1) && (is_lawful_body 320 3 (slice_get (0 ∷ 1 ∷ 1 ∷ 2 ∷ 0 ∷ [])) true (let p = inventory in p.function 2) && (is_lawful_body 320 3 (slice_get (0 ∷ 1 ∷ 1 ∷ 2 ∷ 0 ∷ [])) true (let p = inventory in p.function 3) && (is_lawful_body 320 1 (slice_get (0 ∷ 1 ∷ 1 ∷ 2 ∷ 0 ∷ [])) false (let p = inventory in p.function 4) && true))))) ≡ true
inventory_lawful = refl

abbrev inventory_data : List ℕ
inventory_data = (1 ∷ 0 ∷ 0 ∷ 0 ∷ 2 ∷ 0 ∷ 0 ∷ 0 ∷ 3 ∷ 0 ∷ 0 ∷ 0 ∷ 4 ∷ 0 ∷ 0 ∷ 0 ∷ 5 ∷ 0 ∷ 0 ∷ 0 ∷ 6 ∷ 0 ∷ 0 ∷ 0 ∷ 7 ∷ 0 ∷ 0 ∷ 0 ∷ 8 ∷ 0
    ∷ 0 ∷ 0 ∷ 9 ∷ 0 ∷ 0 ∷ 0 ∷ 10 ∷ 0 ∷ 0 ∷ 0 ∷ 11 ∷ 0 ∷ 0 ∷ 0 ∷ 12 ∷ 0 ∷ 0 ∷ 0 ∷ 0 ∷ 0 ∷ 0 ∷ 0 ∷ 0 ∷ 0 ∷ 0 ∷ 0 ∷ 0 ∷ 0 ∷ 0
    ∷ 0 ∷ 0 ∷ 0 ∷ 0 ∷ 0 ∷ 0 ∷ 0 ∷ 0 ∷ 0 ∷ 0 ∷ 0 ∷ 0 ∷ 0 ∷ 0 ∷ 0 ∷ 0 ∷ 0 ∷ 0 ∷ 0 ∷ 0 ∷ 0 ∷ 0 ∷ 0 ∷ 0 ∷ 0 ∷ 0 ∷ 0 ∷ 0 ∷ 0 ∷
    0 ∷ 0 ∷ 0 ∷ 0 ∷ 0 ∷ 0 ∷ 0 ∷ 0 ∷ 0 ∷ 0 ∷ 0 ∷ 0 ∷ 0 ∷ 0 ∷ 0 ∷ 0 ∷ 37 ∷ 100 ∷ 32 ∷ 37 ∷ 100 ∷ 10 ∷ 0 ∷ 37 ∷ 100 ∷ 32 ∷ 37
    ∷ 100 ∷ 10 ∷ 0 ∷ 116 ∷ 111 ∷ 116 ∷ 97 ∷ 108 ∷ 32 ∷ 37 ∷ 100 ∷ 10 ∷ 0 ∷ 99 ∷ 111 ∷ 109 ∷ 109 ∷ 111 ∷ 110 ∷ 32 ∷ 37 ∷
    100 ∷ 32 ∷ 108 ∷ 97 ∷ 115 ∷ 116 ∷ 32 ∷ 37 ∷ 100 ∷ 10 ∷ 0 ∷ [])

inventory_runs :
    seen 146 (run inventory 100000 4 (start 320 164 inventory_data)) ≡
    record {
      end = Halted 0;
      printed = (((((((((((((((((((((((((((((((([] ++ spelled spell.Signed 58) ++ (32 ∷ [])) ++
          spelled spell.Signed 64) ++ (10 ∷ [])) ++ spelled spell.Signed 139) ++ (32 ∷ [])) ++ spelled spell.Signed 154) ++ (10
          ∷ [])) ++ (116 ∷ [])) ++ (111 ∷ [])) ++ (116 ∷ [])) ++ (97 ∷ [])) ++ (108 ∷ [])) ++ (32 ∷ [])) ++ spelled spell.Signed
          30) ++ (10 ∷ [])) ++ (99 ∷ [])) ++ (111 ∷ [])) ++ (109 ∷ [])) ++ (109 ∷ [])) ++ (111 ∷ [])) ++ (110 ∷ [])) ++ (32 ∷
          [])) ++ spelled spell.Signed 12) ++ (32 ∷ [])) ++ (108 ∷ [])) ++ (97 ∷ [])) ++ (115 ∷ [])) ++ (116 ∷ [])) ++ (32 ∷
          [])) ++ spelled spell.Signed 6) ++ (10 ∷ []));
      reads = 52;
      writes = 26;
      bytes = (1 ∷ 0 ∷ 0 ∷ 0 ∷ 2 ∷ 0 ∷ 0 ∷ 0 ∷ 3 ∷ 0
          ∷ 0 ∷ 0 ∷ 4 ∷ 0 ∷ 0 ∷ 0 ∷ 5 ∷ 0 ∷ 0 ∷ 0 ∷ 6 ∷ 0 ∷ 0 ∷ 0 ∷ 7 ∷ 0 ∷ 0 ∷ 0 ∷ 8 ∷ 0 ∷ 0 ∷ 0 ∷ 9 ∷ 0 ∷ 0 ∷ 0 ∷ 10 ∷ 0 ∷ 0 ∷
          0 ∷ 11 ∷ 0 ∷ 0 ∷ 0 ∷ 12 ∷ 0 ∷ 0 ∷ 0 ∷ 58 ∷ 0 ∷ 0 ∷ 0 ∷ 64 ∷ 0 ∷ 0 ∷ 0 ∷ 139 ∷ 0 ∷ 0 ∷ 0 ∷ 154 ∷ 0 ∷ 0 ∷ 0 ∷ 0 ∷ 0 ∷ 0
          ∷ 0 ∷ 88 ∷ 0 ∷ 0 ∷ 0 ∷ 1 ∷ 0 ∷ 0 ∷ 0 ∷ 96 ∷ 0 ∷ 0 ∷ 0 ∷ 4 ∷ 0 ∷ 0 ∷ 0 ∷ 104 ∷ 0 ∷ 0 ∷ 0 ∷ 9 ∷ 0 ∷ 0 ∷ 0 ∷ 112 ∷ 0 ∷ 0
          ∷ 0 ∷ 16 ∷ 0 ∷ 0 ∷ 0 ∷ 0 ∷ 0 ∷ 0 ∷ 0 ∷ 37 ∷ 100 ∷ 32 ∷ 37 ∷ 100 ∷ 10 ∷ 0 ∷ 37 ∷ 100 ∷ 32 ∷ 37 ∷ 100 ∷ 10 ∷ 0 ∷ 116 ∷
          111 ∷ 116 ∷ 97 ∷ 108 ∷ 32 ∷ 37 ∷ 100 ∷ 10 ∷ 0 ∷ 99 ∷ 111 ∷ 109 ∷ 109 ∷ 111 ∷ 110 ∷ 32 ∷ 37 ∷ 100 ∷ 32 ∷ 108 ∷ 97 ∷ 115
          ∷ 116 ∷ 32 ∷ 37 ∷ 100 ∷ 10 ∷ []);
      rest_is_zero = true;
    }
unfolding compared misplaced combined spelled most_bytes
inventory_runs = refl

inventory_reads : (nat_eq (wanted_reads inventory (among ((1 ∷ 2 ∷ 3 ∷ []) ∷ (0 ∷ 2 ∷ []) ∷ (1 ∷ []) ∷ [] ∷ [] ∷ [])) 0) 0 && (nat_eq
    (wanted_reads inventory (among ((1 ∷ 2 ∷ 3 ∷ []) ∷ (0 ∷ 2 ∷ []) ∷ (1 ∷ []) ∷ [] ∷ [] ∷ [])) 1) 0 && (nat_eq
    (wanted_reads inventory (among ((1 ∷ 2 ∷ 3 ∷ []) ∷ (0 ∷ 2 ∷ []) ∷ (1 ∷ []) ∷ [] ∷ [] ∷ [])) 2) 1 && (nat_eq
    (wanted_reads inventory (among ((1 ∷ 2 ∷ 3 ∷ []) ∷ (0 ∷ 2 ∷ []) ∷ (1 ∷ []) ∷ [] ∷ [] ∷ [])) 3) 0 && (nat_eq
    (wanted_reads inventory (among ((1 ∷ 2 ∷ 3 ∷ []) ∷ (0 ∷ 2 ∷ []) ∷ (1 ∷ []) ∷ [] ∷ [] ∷ [])) 4) 0 && true))))) ≡ true
inventory_reads = refl

inventory_tests : (nat_eq (open_tests inventory (among ((1 ∷ 2 ∷ 3 ∷ []) ∷ (0 ∷ 2 ∷ []) ∷ (1 ∷ []) ∷ [] ∷ [] ∷ [])) 0) 3 && (nat_eq
    (open_tests inventory (among ((1 ∷ 2 ∷ 3 ∷ []) ∷ (0 ∷ 2 ∷ []) ∷ (1 ∷ []) ∷ [] ∷ [] ∷ [])) 1) 0 && (nat_eq (open_tests
    inventory (among ((1 ∷ 2 ∷ 3 ∷ []) ∷ (0 ∷ 2 ∷ []) ∷ (1 ∷ []) ∷ [] ∷ [] ∷ [])) 2) 1 && (nat_eq (open_tests inventory
    (among ((1 ∷ 2 ∷ 3 ∷ []) ∷ (0 ∷ 2 ∷ []) ∷ (1 ∷ []) ∷ [] ∷ [] ∷ [])) 3) 0 && (nat_eq (open_tests inventory (among ((1 ∷
    2 ∷ 3 ∷ []) ∷ (0 ∷ 2 ∷ []) ∷ (1 ∷ []) ∷ [] ∷ [] ∷ [])) 4) 0 && true))))) ≡ true
inventory_tests = refl

-- #include <stdio.h>
-- typedef int t;int main(void){int t=3;printf("%d\n",t);return 0;}
abbrev hidden_typedef : Program
hidden_typedef = record { limit = 100; function = function } where
  addresses : ℕ → ℕ
  addresses k = slice_index (16 ∷ []) k

  f0 : Function
  f0 = record {
    address = addresses;
    callee = λ g. g;
    parameters = [];
    frame = 0;
    body = (tree.Evaluate here (tree.Assign here kind.I32 (tree.InVariable 1) (tree.Number 3)) (tree.Print here
        (tree.expression_then (tree.Variable here 1) tree.no_expressions) (piece.Word spell.Signed 0 ∷ piece.Byte 10 ∷ [])
        (tree.Evaluate here (tree.Exit here (tree.Number 0)) tree.Done)));
  }

  function : ℕ → Function
  function f = f0

hidden_typedef_lawful : (is_lawful_body 128 2 (slice_get (0 ∷ [])) false (let p = hidden_typedef in p.function 0) && true) ≡ true
hidden_typedef_lawful = refl

abbrev hidden_typedef_data : List ℕ
hidden_typedef_data = (37 ∷ 100 ∷ 10 ∷ 0 ∷ [])

hidden_typedef_runs :
    seen 3 (run hidden_typedef 100000 0 (start 128 20 hidden_typedef_data)) ≡
    record {
      end = Halted 0;
      printed = (([] ++ spelled spell.Signed 3) ++ (10 ∷ []));
      reads = 0;
      writes = 0;
      bytes = (37 ∷
          100 ∷ 10 ∷ []);
      rest_is_zero = true;
    }
unfolding compared misplaced combined spelled most_bytes
hidden_typedef_runs = refl

hidden_typedef_reads : (nat_eq (wanted_reads hidden_typedef (among ([] ∷ [])) 0) 0 && true) ≡ true
hidden_typedef_reads = refl

hidden_typedef_tests : (nat_eq (open_tests hidden_typedef (among ([] ∷ [])) 0) 0 && true) ≡ true
hidden_typedef_tests = refl
