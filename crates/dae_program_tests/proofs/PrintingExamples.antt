-- Examples of printing: programs, and what an independent implementation of their meaning finds of them. Made by
-- tools/meaning/terms.py.
use Rattle.std.proofs.Common.{◌≡◌, ℕ, true, false, ◌&&◌, ◌∷◌, List, [], ◌++◌, Some, None, nat_eq, if◌then◌else◌, refl}
use Rattle.std.specs.Prelude.{slice_index, slice_get, nat_le}
use Rattle.dae_base.specs.declared.Width.TheVariants as width
use Rattle.dae_base.specs.declared.LoadKind.TheVariants as kind
use Rattle.dae_meaning.specs.Operations.{compared, misplaced, combined, spelled}
use Rattle.dae_meaning.specs.Results.{Halted, Trapped}
use Rattle.dae_meaning.specs.declared.Operator.TheVariants as op
use Rattle.dae_meaning.specs.declared.Comparison.TheVariants as rel
use Rattle.dae_meaning.specs.declared.Spelling.TheVariants as spell
use Rattle.dae_program.specs.declared.statements.FormatPiece.TheVariants as piece
use Rattle.dae_program.specs.Trees as tree
use Rattle.dae_program.specs.Trees.{Program, Function}
use Rattle.dae_program.specs.Printing.{most_bytes}
use Rattle.dae_program.specs.Programs.{run, start}
use Rattle.dae_program.specs.Lawful.{is_lawful_body}
use Rattle.dae_program.specs.Wanted.{wanted_reads, open_tests}
use Rattle.dae_program_tests.proofs.Seen.{here, seen, work_of, among}

-- #include <stdio.h>
-- int main(void){printf("%d|%i|%u|%x|%c|%%|%s",-5,7,-5,48879,321,"s");printf("%ld%lx",-1l,255u);return 0;}
abbrev spellings : Program
spellings = record { limit = 100; function = function } where
  addresses : ℕ → ℕ
  addresses k = slice_index (16 ∷ 37 ∷ 39 ∷ []) k

  f0 : Function
  f0 = record {
    address = addresses;
    callee = λ g. g;
    parameters = [];
    frame = 0;
    body = (tree.Print here (tree.expression_then (tree.Number 4294967291) (tree.expression_then (tree.Number 7)
        (tree.expression_then (tree.Number 4294967291) (tree.expression_then (tree.Number 48879) (tree.expression_then
        (tree.Number 321) (tree.expression_then (tree.Address 1 0) tree.no_expressions)))))) (piece.Word spell.Signed 0 ∷
        piece.Byte 124 ∷ piece.Word spell.Signed 1 ∷ piece.Byte 124 ∷ piece.Word spell.Unsigned 2 ∷ piece.Byte 124 ∷
        piece.Word spell.Hexadecimal 3 ∷ piece.Byte 124 ∷ piece.Word spell.Byte 4 ∷ piece.Byte 124 ∷ piece.Byte 37 ∷
        piece.Byte 124 ∷ piece.String 5 ∷ []) (tree.Print here (tree.expression_then (tree.Number 4294967295)
        (tree.expression_then (tree.Number 255) tree.no_expressions)) (piece.Word spell.Signed 0 ∷ piece.Word
        spell.Hexadecimal 1 ∷ []) (tree.Evaluate here (tree.Exit here (tree.Number 0)) tree.Done)));
  }

  function : ℕ → Function
  function f = f0

spellings_lawful : (is_lawful_body 128 1 (slice_get (0 ∷ [])) false (let p = spellings in p.function 0) && true) ≡ true
spellings_lawful = refl

abbrev spellings_data : List ℕ
spellings_data = (37 ∷ 100 ∷ 124 ∷ 37 ∷ 105 ∷ 124 ∷ 37 ∷ 117 ∷ 124 ∷ 37 ∷ 120 ∷ 124 ∷ 37 ∷ 99 ∷ 124 ∷ 37 ∷ 37 ∷ 124 ∷ 37 ∷ 115 ∷ 0 ∷
    115 ∷ 0 ∷ 37 ∷ 108 ∷ 100 ∷ 37 ∷ 108 ∷ 120 ∷ 0 ∷ [])

spellings_runs :
    seen 29 (run spellings 100000 0 (start 128 48 spellings_data)) ≡
    record {
      end = Halted 0;
      printed = ((((((((((((((([] ++ spelled spell.Signed 4294967291) ++ (124 ∷ [])) ++ spelled
          spell.Signed 7) ++ (124 ∷ [])) ++ spelled spell.Unsigned 4294967291) ++ (124 ∷ [])) ++ spelled spell.Hexadecimal
          48879) ++ (124 ∷ [])) ++ spelled spell.Byte 65) ++ (124 ∷ [])) ++ (37 ∷ [])) ++ (124 ∷ [])) ++ spelled spell.Byte 115)
          ++ spelled spell.Signed 4294967295) ++ spelled spell.Hexadecimal 255);
      reads = 2;
      writes = 0;
      bytes = (37 ∷ 100 ∷ 124
          ∷ 37 ∷ 105 ∷ 124 ∷ 37 ∷ 117 ∷ 124 ∷ 37 ∷ 120 ∷ 124 ∷ 37 ∷ 99 ∷ 124 ∷ 37 ∷ 37 ∷ 124 ∷ 37 ∷ 115 ∷ 0 ∷ 115 ∷ 0 ∷ 37 ∷ 108
          ∷ 100 ∷ 37 ∷ 108 ∷ 120 ∷ []);
      rest_is_zero = true;
    }
unfolding compared misplaced combined spelled most_bytes
spellings_runs = refl

spellings_reads : (nat_eq (wanted_reads spellings (among ([] ∷ [])) 0) 0 && true) ≡ true
spellings_reads = refl

spellings_tests : (nat_eq (open_tests spellings (among ([] ∷ [])) 0) 0 && true) ≡ true
spellings_tests = refl

-- #include <stdio.h>
-- int f(int x){putchar(48+x);return x;}int main(void){printf("a%db%dc",f(1),f(2));return 0;}
abbrev printf_evaluates_first : Program
printf_evaluates_first = record { limit = 100; function = function } where
  addresses : ℕ → ℕ
  addresses k = slice_index (16 ∷ []) k

  f0 : Function
  f0 = record {
    address = addresses;
    callee = λ g. g;
    parameters = (None ∷ []);
    frame = 0;
    body = (tree.Evaluate here (tree.Putchar here (tree.Binary here op.Add (tree.Number 48) (tree.Variable here 1)))
        (tree.Return here (Some (tree.Variable here 1)) tree.Done));
  }

  f1 : Function
  f1 = record {
    address = addresses;
    callee = λ g. g;
    parameters = [];
    frame = 0;
    body = (tree.Print here (tree.expression_then (tree.Call here 0 (tree.expression_then (tree.Number 1)
        tree.no_expressions)) (tree.expression_then (tree.Call here 0 (tree.expression_then (tree.Number 2)
        tree.no_expressions)) tree.no_expressions)) (piece.Byte 97 ∷ piece.Word spell.Signed 0 ∷ piece.Byte 98 ∷
        piece.Word spell.Signed 1 ∷ piece.Byte 99 ∷ []) (tree.Evaluate here (tree.Exit here (tree.Number 0)) tree.Done));
  }

  function : ℕ → Function
  function f = (if nat_eq f 0 then f0 else f1)

printf_evaluates_first_lawful : (is_lawful_body 128 2 (slice_get (1 ∷ 0 ∷ [])) true (let p = printf_evaluates_first in p.function 0) && (is_lawful_body 128 1 (slice_get (1 ∷ 0 ∷ [])) false (let p = printf_evaluates_first in p.function 1) && true)) ≡ true
printf_evaluates_first_lawful = refl

abbrev printf_evaluates_first_data : List ℕ
printf_evaluates_first_data = (97 ∷ 37 ∷ 100 ∷ 98 ∷ 37 ∷ 100 ∷ 99 ∷ 0 ∷ [])

printf_evaluates_first_runs :
    seen 7 (run printf_evaluates_first 100000 1 (start 128 24 printf_evaluates_first_data)) ≡
    record {
      end = Halted 0;
      printed = ((((((([] ++ spelled spell.Byte 49) ++ spelled spell.Byte 50) ++ (97 ∷ [])) ++
          spelled spell.Signed 1) ++ (98 ∷ [])) ++ spelled spell.Signed 2) ++ (99 ∷ []));
      reads = 0;
      writes = 0;
      bytes = (97 ∷
          37 ∷ 100 ∷ 98 ∷ 37 ∷ 100 ∷ 99 ∷ []);
      rest_is_zero = true;
    }
unfolding compared misplaced combined spelled most_bytes
printf_evaluates_first_runs = refl

printf_evaluates_first_reads : (nat_eq (wanted_reads printf_evaluates_first (among ([] ∷ [] ∷ [])) 0) 0 && (nat_eq (wanted_reads
    printf_evaluates_first (among ([] ∷ [] ∷ [])) 1) 0 && true)) ≡ true
printf_evaluates_first_reads = refl

printf_evaluates_first_tests : (nat_eq (open_tests printf_evaluates_first (among ([] ∷ [] ∷ [])) 0) 0 && (nat_eq (open_tests printf_evaluates_first
    (among ([] ∷ [] ∷ [])) 1) 0 && true)) ≡ true
printf_evaluates_first_tests = refl

-- #include <stdio.h>
-- int z;int main(void){printf("a%d",1/z);return 0;}
abbrev printf_trap_before : Program
printf_trap_before = record { limit = 100; function = function } where
  addresses : ℕ → ℕ
  addresses k = slice_index (16 ∷ 20 ∷ []) k

  f0 : Function
  f0 = record {
    address = addresses;
    callee = λ g. g;
    parameters = [];
    frame = 0;
    body = (tree.Print here (tree.expression_then (tree.Binary here op.DivideSigned (tree.Number 1) (tree.Read here kind.I32
        false (tree.Address 0 0))) tree.no_expressions) (piece.Byte 97 ∷ piece.Word spell.Signed 0 ∷ []) (tree.Evaluate
        here (tree.Exit here (tree.Number 0)) tree.Done));
  }

  function : ℕ → Function
  function f = f0

printf_trap_before_lawful : (is_lawful_body 128 1 (slice_get (0 ∷ [])) false (let p = printf_trap_before in p.function 0) && true) ≡ true
printf_trap_before_lawful = refl

abbrev printf_trap_before_data : List ℕ
printf_trap_before_data = (0 ∷ 0 ∷ 0 ∷ 0 ∷ 97 ∷ 37 ∷ 100 ∷ 0 ∷ [])

printf_trap_before_runs :
    seen 7 (run printf_trap_before 100000 0 (start 128 24 printf_trap_before_data)) ≡
    record {
      end = Trapped 1;
      printed = [];
      reads = 1;
      writes = 0;
      bytes = (0 ∷ 0 ∷ 0 ∷ 0 ∷ 97 ∷ 37 ∷ 100 ∷ []);
      rest_is_zero = true;
    }
unfolding compared misplaced combined spelled most_bytes
printf_trap_before_runs = refl

printf_trap_before_works : nat_le (work_of (run printf_trap_before 100000 0 (start 128 24 printf_trap_before_data))) 24 ≡ true
unfolding compared misplaced combined spelled most_bytes
printf_trap_before_works = refl

printf_trap_before_reads : (nat_eq (wanted_reads printf_trap_before (among ([] ∷ [])) 0) 0 && true) ≡ true
printf_trap_before_reads = refl

printf_trap_before_tests : (nat_eq (open_tests printf_trap_before (among ([] ∷ [])) 0) 0 && true) ≡ true
printf_trap_before_tests = refl

-- #include <stdio.h>
-- char s[4]="ab";int main(void){printf("[%s|%s%%|%c]",s,"xyz",65);s[2]='c';s[3]='d';printf("%s",s);return 0;}
abbrev strings : Program
strings = record { limit = 100; function = function } where
  addresses : ℕ → ℕ
  addresses k = slice_index (16 ∷ 20 ∷ 23 ∷ 36 ∷ 40 ∷ []) k

  f0 : Function
  f0 = record {
    address = addresses;
    callee = λ g. g;
    parameters = [];
    frame = 0;
    body = (tree.Print here (tree.expression_then (tree.Address 0 0) (tree.expression_then (tree.Address 3 0)
        (tree.expression_then (tree.Number 65) tree.no_expressions))) (piece.Byte 91 ∷ piece.String 0 ∷ piece.Byte 124 ∷
        piece.String 1 ∷ piece.Byte 37 ∷ piece.Byte 124 ∷ piece.Word spell.Byte 2 ∷ piece.Byte 93 ∷ []) (tree.Evaluate
        here (tree.Assign here kind.U8 (tree.AtAddress true (tree.Address 0 2)) (tree.Number 99)) (tree.Evaluate here
        (tree.Assign here kind.U8 (tree.AtAddress true (tree.Address 0 3)) (tree.Number 100)) (tree.Print here
        (tree.expression_then (tree.Address 0 0) tree.no_expressions) (piece.String 0 ∷ []) (tree.Evaluate here (tree.Exit
        here (tree.Number 0)) tree.Done)))));
  }

  function : ℕ → Function
  function f = f0

strings_lawful : (is_lawful_body 192 1 (slice_get (0 ∷ [])) false (let p = strings in p.function 0) && true) ≡ true
strings_lawful = refl

abbrev strings_data : List ℕ
strings_data = (97 ∷ 98 ∷ 0 ∷ 0 ∷ 97 ∷ 98 ∷ 0 ∷ 91 ∷ 37 ∷ 115 ∷ 124 ∷ 37 ∷ 115 ∷ 37 ∷ 37 ∷ 124 ∷ 37 ∷ 99 ∷ 93 ∷ 0 ∷ 120 ∷ 121 ∷ 122 ∷
    0 ∷ 37 ∷ 115 ∷ 0 ∷ [])

strings_runs :
    seen 26 (run strings 100000 0 (start 192 44 strings_data)) ≡
    record {
      end = Halted 0;
      printed = ((((((((((((((((([] ++ (91 ∷ [])) ++ spelled spell.Byte 97) ++ spelled spell.Byte
          98) ++ (124 ∷ [])) ++ spelled spell.Byte 120) ++ spelled spell.Byte 121) ++ spelled spell.Byte 122) ++ (37 ∷ [])) ++
          (124 ∷ [])) ++ spelled spell.Byte 65) ++ (93 ∷ [])) ++ spelled spell.Byte 97) ++ spelled spell.Byte 98) ++ spelled
          spell.Byte 99) ++ spelled spell.Byte 100) ++ spelled spell.Byte 97) ++ spelled spell.Byte 98);
      reads = 14;
      writes = 2;
      bytes = (97 ∷ 98 ∷ 99 ∷ 100 ∷ 97 ∷ 98 ∷ 0 ∷ 91 ∷ 37 ∷ 115 ∷ 124 ∷ 37 ∷ 115 ∷ 37 ∷ 37 ∷ 124 ∷ 37 ∷ 99 ∷ 93 ∷ 0 ∷ 120 ∷
          121 ∷ 122 ∷ 0 ∷ 37 ∷ 115 ∷ []);
      rest_is_zero = true;
    }
unfolding compared misplaced combined spelled most_bytes
strings_runs = refl

strings_works : nat_le (work_of (run strings 100000 0 (start 192 44 strings_data))) 129 ≡ true
unfolding compared misplaced combined spelled most_bytes
strings_works = refl

strings_reads : (nat_eq (wanted_reads strings (among ([] ∷ [])) 0) 0 && true) ≡ true
strings_reads = refl

strings_tests : (nat_eq (open_tests strings (among ([] ∷ [])) 0) 0 && true) ≡ true
strings_tests = refl

-- #include <stdio.h>
-- int main(void){printf("a%sb",(char*)0);return 0;}
abbrev string_null : Program
string_null = record { limit = 100; function = function } where
  addresses : ℕ → ℕ
  addresses k = slice_index (16 ∷ []) k

  f0 : Function
  f0 = record {
    address = addresses;
    callee = λ g. g;
    parameters = [];
    frame = 0;
    body = (tree.Print here (tree.expression_then (tree.Number 0) tree.no_expressions) (piece.Byte 97 ∷ piece.String 0 ∷
        piece.Byte 98 ∷ []) (tree.Evaluate here (tree.Exit here (tree.Number 0)) tree.Done));
  }

  function : ℕ → Function
  function f = f0

string_null_lawful : (is_lawful_body 128 1 (slice_get (0 ∷ [])) false (let p = string_null in p.function 0) && true) ≡ true
string_null_lawful = refl

abbrev string_null_data : List ℕ
string_null_data = (97 ∷ 37 ∷ 115 ∷ 98 ∷ 0 ∷ [])

string_null_runs :
    seen 4 (run string_null 100000 0 (start 128 24 string_null_data)) ≡
    record {
      end = Trapped 2;
      printed = ([] ++ (97 ∷ []));
      reads = 0;
      writes = 0;
      bytes = (97 ∷ 37 ∷ 115 ∷ 98 ∷ []);
      rest_is_zero = true;
    }
unfolding compared misplaced combined spelled most_bytes
string_null_runs = refl

string_null_works : nat_le (work_of (run string_null 100000 0 (start 128 24 string_null_data))) 24 ≡ true
unfolding compared misplaced combined spelled most_bytes
string_null_works = refl

string_null_reads : (nat_eq (wanted_reads string_null (among ([] ∷ [])) 0) 0 && true) ≡ true
string_null_reads = refl

string_null_tests : (nat_eq (open_tests string_null (among ([] ∷ [])) 0) 0 && true) ≡ true
string_null_tests = refl

-- #include <stdio.h>
-- int main(void){char*p;for(p=(char*)120;p<(char*)128;p++)*p='y';printf("%s","ok");printf("%s",(char*)124);return 0;}
abbrev string_trap : Program
string_trap = record { limit = 100; function = function } where
  addresses : ℕ → ℕ
  addresses k = slice_index (16 ∷ 19 ∷ 22 ∷ []) k

  f0 : Function
  f0 = record {
    address = addresses;
    callee = λ g. g;
    parameters = [];
    frame = 0;
    body = (tree.Evaluate here (tree.Assign here kind.I32 (tree.InVariable 1) (tree.Number 0)) (tree.Evaluate here
        (tree.Assign here kind.I32 (tree.InVariable 1) (tree.Number 120)) (tree.Loop here (Some (tree.Compare here
        rel.LessUnsigned false (tree.Variable here 1) (tree.Number 128))) (tree.Evaluate here (tree.Assign here kind.U8
        (tree.AtAddress true (tree.Variable here 1)) (tree.Number 121)) tree.Done) (Some (tree.Step here kind.I32
        (tree.InVariable 1) 1 false)) (tree.Print here (tree.expression_then (tree.Address 1 0) tree.no_expressions)
        (piece.String 0 ∷ []) (tree.Print here (tree.expression_then (tree.Number 124) tree.no_expressions) (piece.String
        0 ∷ []) (tree.Evaluate here (tree.Exit here (tree.Number 0)) tree.Done))))));
  }

  function : ℕ → Function
  function f = f0

string_trap_lawful : (is_lawful_body 128 2 (slice_get (0 ∷ [])) false (let p = string_trap in p.function 0) && true) ≡ true
string_trap_lawful = refl

abbrev string_trap_data : List ℕ
string_trap_data = (37 ∷ 115 ∷ 0 ∷ 111 ∷ 107 ∷ 0 ∷ 37 ∷ 115 ∷ 0 ∷ [])

string_trap_runs :
    seen 112 (run string_trap 100000 0 (start 128 28 string_trap_data)) ≡
    record {
      end = Trapped 2;
      printed = (((((([] ++ spelled spell.Byte 111) ++ spelled spell.Byte 107) ++ spelled
          spell.Byte 121) ++ spelled spell.Byte 121) ++ spelled spell.Byte 121) ++ spelled spell.Byte 121);
      reads = 7;
      writes =
          8;
      bytes = (37 ∷ 115 ∷ 0 ∷ 111 ∷ 107 ∷ 0 ∷ 37 ∷ 115 ∷ 0 ∷ 0 ∷ 0 ∷ 0 ∷ 0 ∷ 0 ∷ 0 ∷ 0 ∷ 0 ∷ 0 ∷ 0 ∷ 0 ∷ 0 ∷ 0 ∷ 0 ∷ 0 ∷
          0 ∷ 0 ∷ 0 ∷ 0 ∷ 0 ∷ 0 ∷ 0 ∷ 0 ∷ 0 ∷ 0 ∷ 0 ∷ 0 ∷ 0 ∷ 0 ∷ 0 ∷ 0 ∷ 0 ∷ 0 ∷ 0 ∷ 0 ∷ 0 ∷ 0 ∷ 0 ∷ 0 ∷ 0 ∷ 0 ∷ 0 ∷ 0 ∷ 0 ∷ 0
          ∷ 0 ∷ 0 ∷ 0 ∷ 0 ∷ 0 ∷ 0 ∷ 0 ∷ 0 ∷ 0 ∷ 0 ∷ 0 ∷ 0 ∷ 0 ∷ 0 ∷ 0 ∷ 0 ∷ 0 ∷ 0 ∷ 0 ∷ 0 ∷ 0 ∷ 0 ∷ 0 ∷ 0 ∷ 0 ∷ 0 ∷ 0 ∷ 0 ∷ 0 ∷
          0 ∷ 0 ∷ 0 ∷ 0 ∷ 0 ∷ 0 ∷ 0 ∷ 0 ∷ 0 ∷ 0 ∷ 0 ∷ 0 ∷ 0 ∷ 0 ∷ 0 ∷ 0 ∷ 0 ∷ 0 ∷ 0 ∷ 0 ∷ 0 ∷ 121 ∷ 121 ∷ 121 ∷ 121 ∷ 121 ∷ 121
          ∷ 121 ∷ 121 ∷ []);
      rest_is_zero = true;
    }
unfolding compared misplaced combined spelled most_bytes
string_trap_runs = refl

string_trap_works : nat_le (work_of (run string_trap 100000 0 (start 128 28 string_trap_data))) 369 ≡ true
unfolding compared misplaced combined spelled most_bytes
string_trap_works = refl

string_trap_reads : (nat_eq (wanted_reads string_trap (among ((1 ∷ []) ∷ [])) 0) 0 && true) ≡ true
string_trap_reads = refl

string_trap_tests : (nat_eq (open_tests string_trap (among ((1 ∷ []) ∷ [])) 0) 1 && true) ≡ true
string_trap_tests = refl

-- #include <stdio.h>
-- char s[8]="abc";int main(void){char*p=s+1;printf("%s",p);printf("<%s%s>","",s);return 0;}
abbrev text_reads : Program
text_reads = record { limit = 100; function = function } where
  addresses : ℕ → ℕ
  addresses k = slice_index (16 ∷ 24 ∷ 28 ∷ 31 ∷ 38 ∷ []) k

  f0 : Function
  f0 = record {
    address = addresses;
    callee = λ g. g;
    parameters = [];
    frame = 0;
    body = (tree.Evaluate here (tree.Assign here kind.I32 (tree.InVariable 1) (tree.Address 0 1)) (tree.Print here
        (tree.expression_then (tree.Variable here 1) tree.no_expressions) (piece.String 0 ∷ []) (tree.Print here
        (tree.expression_then (tree.Address 4 0) (tree.expression_then (tree.Address 0 0) tree.no_expressions))
        (piece.Byte 60 ∷ piece.String 0 ∷ piece.String 1 ∷ piece.Byte 62 ∷ []) (tree.Evaluate here (tree.Exit here
        (tree.Number 0)) tree.Done))));
  }

  function : ℕ → Function
  function f = f0

text_reads_lawful : (is_lawful_body 128 2 (slice_get (0 ∷ [])) false (let p = text_reads in p.function 0) && true) ≡ true
text_reads_lawful = refl

abbrev text_reads_data : List ℕ
text_reads_data = (97 ∷ 98 ∷ 99 ∷ 0 ∷ 0 ∷ 0 ∷ 0 ∷ 0 ∷ 97 ∷ 98 ∷ 99 ∷ 0 ∷ 37 ∷ 115 ∷ 0 ∷ 60 ∷ 37 ∷ 115 ∷ 37 ∷ 115 ∷ 62 ∷ 0 ∷ 0 ∷ [])

text_reads_runs :
    seen 21 (run text_reads 100000 0 (start 128 40 text_reads_data)) ≡
    record {
      end = Halted 0;
      printed = ((((((([] ++ spelled spell.Byte 98) ++ spelled spell.Byte 99) ++ (60 ∷ [])) ++
          spelled spell.Byte 97) ++ spelled spell.Byte 98) ++ spelled spell.Byte 99) ++ (62 ∷ []));
      reads = 8;
      writes = 0;
      bytes
          = (97 ∷ 98 ∷ 99 ∷ 0 ∷ 0 ∷ 0 ∷ 0 ∷ 0 ∷ 97 ∷ 98 ∷ 99 ∷ 0 ∷ 37 ∷ 115 ∷ 0 ∷ 60 ∷ 37 ∷ 115 ∷ 37 ∷ 115 ∷ 62 ∷ []);
      rest_is_zero = true;
    }
unfolding compared misplaced combined spelled most_bytes
text_reads_runs = refl

text_reads_works : nat_le (work_of (run text_reads 100000 0 (start 128 40 text_reads_data))) 72 ≡ true
unfolding compared misplaced combined spelled most_bytes
text_reads_works = refl

text_reads_reads : (nat_eq (wanted_reads text_reads (among ((1 ∷ []) ∷ [])) 0) 0 && true) ≡ true
text_reads_reads = refl

text_reads_tests : (nat_eq (open_tests text_reads (among ((1 ∷ []) ∷ [])) 0) 0 && true) ≡ true
text_reads_tests = refl

-- #include <stdio.h>
-- char*p="ab";char*q="ab";char r[3]="ab";int main(void){printf("%d%s%s%s",p==q,p,q,r);p[0]=99;r[1]=100;printf("%s%s%s",p,q,r);return sizeof(r);}
abbrev shared_texts : Program
shared_texts = record { limit = 100; function = function } where
  addresses : ℕ → ℕ
  addresses k = slice_index (16 ∷ 20 ∷ 24 ∷ 27 ∷ 30 ∷ 33 ∷ 36 ∷ 45 ∷ []) k

  f0 : Function
  f0 = record {
    address = addresses;
    callee = λ g. g;
    parameters = [];
    frame = 0;
    body = (tree.Print here (tree.expression_then (tree.Compare here rel.Equal false (tree.Read here kind.I32 false
        (tree.Address 0 0)) (tree.Read here kind.I32 false (tree.Address 1 0))) (tree.expression_then (tree.Read here
        kind.I32 false (tree.Address 0 0)) (tree.expression_then (tree.Read here kind.I32 false (tree.Address 1 0))
        (tree.expression_then (tree.Address 2 0) tree.no_expressions)))) (piece.Word spell.Signed 0 ∷ piece.String 1 ∷
        piece.String 2 ∷ piece.String 3 ∷ []) (tree.Evaluate here (tree.Assign here kind.U8 (tree.AtAddress true
        (tree.Read here kind.I32 false (tree.Address 0 0))) (tree.Number 99)) (tree.Evaluate here (tree.Assign here
        kind.U8 (tree.AtAddress true (tree.Address 2 1)) (tree.Number 100)) (tree.Print here (tree.expression_then
        (tree.Read here kind.I32 false (tree.Address 0 0)) (tree.expression_then (tree.Read here kind.I32 false
        (tree.Address 1 0)) (tree.expression_then (tree.Address 2 0) tree.no_expressions))) (piece.String 0 ∷ piece.String
        1 ∷ piece.String 2 ∷ []) (tree.Evaluate here (tree.Exit here (tree.Number 3)) tree.Done)))));
  }

  function : ℕ → Function
  function f = f0

shared_texts_lawful : (is_lawful_body 128 1 (slice_get (0 ∷ [])) false (let p = shared_texts in p.function 0) && true) ≡ true
shared_texts_lawful = refl

abbrev shared_texts_data : List ℕ
shared_texts_data = (27 ∷ 0 ∷ 0 ∷ 0 ∷ 30 ∷ 0 ∷ 0 ∷ 0 ∷ 97 ∷ 98 ∷ 0 ∷ 97 ∷ 98 ∷ 0 ∷ 97 ∷ 98 ∷ 0 ∷ 97 ∷ 98 ∷ 0 ∷ 37 ∷ 100 ∷ 37 ∷ 115 ∷ 37 ∷
    115 ∷ 37 ∷ 115 ∷ 0 ∷ 37 ∷ 115 ∷ 37 ∷ 115 ∷ 37 ∷ 115 ∷ 0 ∷ [])

shared_texts_runs :
    seen 35 (run shared_texts 100000 0 (start 128 52 shared_texts_data)) ≡
    record {
      end = Halted 3;
      printed = ((((((((((((([] ++ spelled spell.Signed 0) ++ spelled spell.Byte 97) ++ spelled
          spell.Byte 98) ++ spelled spell.Byte 97) ++ spelled spell.Byte 98) ++ spelled spell.Byte 97) ++ spelled spell.Byte 98)
          ++ spelled spell.Byte 99) ++ spelled spell.Byte 98) ++ spelled spell.Byte 97) ++ spelled spell.Byte 98) ++ spelled
          spell.Byte 97) ++ spelled spell.Byte 100);
      reads = 25;
      writes = 2;
      bytes = (27 ∷ 0 ∷ 0 ∷ 0 ∷ 30 ∷ 0 ∷ 0 ∷ 0 ∷ 97 ∷ 100
          ∷ 0 ∷ 99 ∷ 98 ∷ 0 ∷ 97 ∷ 98 ∷ 0 ∷ 97 ∷ 98 ∷ 0 ∷ 37 ∷ 100 ∷ 37 ∷ 115 ∷ 37 ∷ 115 ∷ 37 ∷ 115 ∷ 0 ∷ 37 ∷ 115 ∷ 37 ∷ 115 ∷
          37 ∷ 115 ∷ []);
      rest_is_zero = true;
    }
unfolding compared misplaced combined spelled most_bytes
shared_texts_runs = refl

shared_texts_reads : (nat_eq (wanted_reads shared_texts (among ([] ∷ [])) 0) 5 && true) ≡ true
shared_texts_reads = refl

shared_texts_tests : (nat_eq (open_tests shared_texts (among ([] ∷ [])) 0) 0 && true) ≡ true
shared_texts_tests = refl

-- struct s{char c;int n[2];};int g;int f(int k){struct s t={1,{2}};int a[3]={5,6};char w[4]="hi";int*p[2]={&g,0};int r=t.c+t.n[0]*10+t.n[1]*100+a[1]*1000+w[1]+(p[0]==&g);if(k){t.n[1]=9;a[2]=7;}return r;}
-- int main(void){int a[2]={3};return f(1)+f(0)+a[0]+a[1];}
abbrev aggregates : Program
aggregates = record { limit = 100; function = function } where
  addresses : ℕ → ℕ
  addresses k = slice_index (16 ∷ 20 ∷ []) k

  f0 : Function
  f0 = record {
    address = addresses;
    callee = λ g. g;
    parameters = (None ∷ []);
    frame = 36;
    body = (tree.Initialise here 0 12 (record { offset = 0; width = width.B1; value = (tree.Number 1) } ∷ record {
      offset =
          4;
      width = width.B4;
      value = (tree.Number 2);
    } ∷ []) (tree.Initialise here 12 12 (record {
      offset = 12;
      width =
          width.B4;
      value = (tree.Number 5);
    } ∷ record { offset = 16; width = width.B4; value = (tree.Number 6) } ∷ [])
        (tree.Initialise here 24 4 (record { offset = 24; width = width.B1; value = (tree.Number 104) } ∷ record {
          offset
              = 25;
          width = width.B1;
          value = (tree.Number 105);
        } ∷ []) (tree.Initialise here 28 8 (record {
          offset = 28;
          width
              = width.B4;
          value = (tree.Address 0 0);
        } ∷ record { offset = 32; width = width.B4; value = (tree.Number 0) } ∷ [])
        (tree.Evaluate here (tree.Assign here kind.I32 (tree.InVariable 2) (tree.Binary here op.Add (tree.Binary here
        op.Add (tree.Binary here op.Add (tree.Binary here op.Add (tree.Binary here op.Add (tree.Read here kind.U8 false
        (tree.Frame here 0)) (tree.Binary here op.Multiply (tree.Read here kind.I32 true (tree.Frame here 4)) (tree.Number
        10))) (tree.Binary here op.Multiply (tree.Read here kind.I32 true (tree.Frame here 8)) (tree.Number 100)))
        (tree.Binary here op.Multiply (tree.Read here kind.I32 true (tree.Frame here 16)) (tree.Number 1000))) (tree.Read
        here kind.U8 true (tree.Frame here 25))) (tree.Compare here rel.Equal false (tree.Read here kind.I32 true
        (tree.Frame here 28)) (tree.Address 0 0)))) (tree.If here (tree.Variable here 1) (tree.Evaluate here (tree.Assign
        here kind.I32 (tree.AtAddress true (tree.Frame here 8)) (tree.Number 9)) (tree.Evaluate here (tree.Assign here
        kind.I32 (tree.AtAddress true (tree.Frame here 20)) (tree.Number 7)) tree.Done)) tree.Done (tree.Return here (Some
        (tree.Variable here 2)) tree.Done)))))));
  }

  f1 : Function
  f1 = record {
    address = addresses;
    callee = λ g. g;
    parameters = [];
    frame = 8;
    body = (tree.Initialise here 0 8 (record { offset = 0; width = width.B4; value = (tree.Number 3) } ∷ []) (tree.Evaluate
        here (tree.Exit here (tree.Binary here op.Add (tree.Binary here op.Add (tree.Binary here op.Add (tree.Call here 0
        (tree.expression_then (tree.Number 1) tree.no_expressions)) (tree.Call here 0 (tree.expression_then (tree.Number
        0) tree.no_expressions))) (tree.Read here kind.I32 true (tree.Frame here 0))) (tree.Read here kind.I32 true
        (tree.Frame here 4)))) tree.Done));
  }

  function : ℕ → Function
  function f = (if nat_eq f 0 then f0 else f1)

aggregates_lawful : (is_lawful_body 192 3 (slice_get (1 ∷ 0 ∷ [])) true (let p = aggregates in p.function 0) && (is_lawful_body 192 1 (slice_get (1 ∷ 0 ∷ [])) false (let p = aggregates in p.function 1) && true)) ≡ true
aggregates_lawful = refl

abbrev aggregates_data : List ℕ
aggregates_data = (0 ∷ 0 ∷ 0 ∷ 0 ∷ 104 ∷ 105 ∷ 0 ∷ [])

aggregates_runs :
    seen 45 (run aggregates 100000 1 (start 192 24 aggregates_data)) ≡
    record {
      end = Halted 12257;
      printed = [];
      reads = 14;
      writes = 99;
      bytes = (0 ∷ 0 ∷ 0 ∷ 0 ∷ 104 ∷ 105 ∷ 0 ∷ 0 ∷ 3 ∷ 0
          ∷ 0 ∷ 0 ∷ 0 ∷ 0 ∷ 0 ∷ 0 ∷ 1 ∷ 0 ∷ 0 ∷ 0 ∷ 2 ∷ 0 ∷ 0 ∷ 0 ∷ 0 ∷ 0 ∷ 0 ∷ 0 ∷ 5 ∷ 0 ∷ 0 ∷ 0 ∷ 6 ∷ 0 ∷ 0 ∷ 0 ∷ 0 ∷ 0 ∷ 0 ∷
          0 ∷ 104 ∷ 105 ∷ 0 ∷ 0 ∷ 16 ∷ []);
      rest_is_zero = true;
    }
unfolding compared misplaced combined spelled most_bytes
aggregates_runs = refl

aggregates_works : nat_le (work_of (run aggregates 100000 1 (start 192 24 aggregates_data))) 621 ≡ true
unfolding compared misplaced combined spelled most_bytes
aggregates_works = refl

aggregates_reads : (nat_eq (wanted_reads aggregates (among ([] ∷ [] ∷ [])) 0) 0 && (nat_eq (wanted_reads aggregates (among ([] ∷ [] ∷
    [])) 1) 0 && true)) ≡ true
aggregates_reads = refl

aggregates_tests : (nat_eq (open_tests aggregates (among ([] ∷ [] ∷ [])) 0) 4 && (nat_eq (open_tests aggregates (among ([] ∷ [] ∷ [])) 1)
    1 && true)) ≡ true
aggregates_tests = refl

-- #include <stdio.h>
-- int f(int k){int a[3];int r=a[0]+a[1];a[0]=k;a[1]=k*2;return r;}int g(void){char w[7]={1,2};short h[2]={-1};return w[0]+w[6]+h[1]+h[0];}int main(void){int r=f(1);r=r*100+f(5);r=r*100+g();return r*100+f(0);}
abbrev local_arrays : Program
local_arrays = record { limit = 100; function = function } where
  addresses : ℕ → ℕ
  addresses k = slice_index [] k

  f0 : Function
  f0 = record {
    address = addresses;
    callee = λ g. g;
    parameters = (None ∷ []);
    frame = 12;
    body = (tree.Evaluate here (tree.Assign here kind.I32 (tree.InVariable 2) (tree.Binary here op.Add (tree.Read here
        kind.I32 true (tree.Frame here 0)) (tree.Read here kind.I32 true (tree.Frame here 4)))) (tree.Evaluate here
        (tree.Assign here kind.I32 (tree.AtAddress true (tree.Frame here 0)) (tree.Variable here 1)) (tree.Evaluate here
        (tree.Assign here kind.I32 (tree.AtAddress true (tree.Frame here 4)) (tree.Binary here op.Multiply (tree.Variable
        here 1) (tree.Number 2))) (tree.Return here (Some (tree.Variable here 2)) tree.Done))));
  }

  f1 : Function
  f1 = record {
    address = addresses;
    callee = λ g. g;
    parameters = [];
    frame = 12;
    body = (tree.Initialise here 0 7 (record { offset = 0; width = width.B1; value = (tree.Number 1) } ∷ record {
      offset = 1;
      width = width.B1;
      value = (tree.Number 2);
    } ∷ []) (tree.Initialise here 8 4 (record {
      offset = 8;
      width =
          width.B2;
      value = (tree.Number 4294967295);
    } ∷ []) (tree.Return here (Some (tree.Binary here op.Add (tree.Binary
        here op.Add (tree.Binary here op.Add (tree.Read here kind.U8 true (tree.Frame here 0)) (tree.Read here kind.U8
        true (tree.Frame here 6))) (tree.Read here kind.I16 true (tree.Frame here 10))) (tree.Read here kind.I16 true
        (tree.Frame here 8)))) tree.Done)));
  }

  f2 : Function
  f2 = record {
    address = addresses;
    callee = λ g. g;
    parameters = [];
    frame = 0;
    body = (tree.Evaluate here (tree.Assign here kind.I32 (tree.InVariable 1) (tree.Call here 0 (tree.expression_then
        (tree.Number 1) tree.no_expressions))) (tree.Evaluate here (tree.Assign here kind.I32 (tree.InVariable 1)
        (tree.Binary here op.Add (tree.Binary here op.Multiply (tree.Variable here 1) (tree.Number 100)) (tree.Call here 0
        (tree.expression_then (tree.Number 5) tree.no_expressions)))) (tree.Evaluate here (tree.Assign here kind.I32
        (tree.InVariable 1) (tree.Binary here op.Add (tree.Binary here op.Multiply (tree.Variable here 1) (tree.Number
        100)) (tree.Call here 1 tree.no_expressions))) (tree.Evaluate here (tree.Exit here (tree.Binary here op.Add
        (tree.Binary here op.Multiply (tree.Variable here 1) (tree.Number 100)) (tree.Call here 0 (tree.expression_then
        (tree.Number 0) tree.no_expressions)))) tree.Done))));
  }

  function : ℕ → Function
  function f = (if nat_eq f 0 then f0 else (if nat_eq f 1 then f1 else f2))

local_arrays_lawful : (is_lawful_body 128 3 (slice_get (1 ∷ 0 ∷ 0 ∷ [])) true (let p = local_arrays in p.function 0) && (is_lawful_body 128 1 (slice_get (1 ∷ 0 ∷ 0 ∷ [])) true (let p = local_arrays in p.function 1) && (is_lawful_body 128 2 (slice_get (1 ∷ 0 ∷ 0 ∷ [])) false (let p = local_arrays in p.function 2) && true))) ≡ true
local_arrays_lawful = refl

abbrev local_arrays_data : List ℕ
local_arrays_data = []

local_arrays_runs :
    seen 10 (run local_arrays 100000 2 (start 128 16 local_arrays_data)) ≡
    record {
      end = Halted 30513;
      printed = [];
      reads = 10;
      writes = 20;
      bytes = (0 ∷ 0 ∷ 0 ∷ 0 ∷ 0 ∷ 0 ∷ 0 ∷ 0 ∷ 255 ∷ 255
          ∷ []);
      rest_is_zero = true;
    }
unfolding compared misplaced combined spelled most_bytes
local_arrays_runs = refl

local_arrays_works : nat_le (work_of (run local_arrays 100000 2 (start 128 16 local_arrays_data))) 414 ≡ true
unfolding compared misplaced combined spelled most_bytes
local_arrays_works = refl

local_arrays_reads : (nat_eq (wanted_reads local_arrays (among ([] ∷ [] ∷ [] ∷ [])) 0) 0 && (nat_eq (wanted_reads local_arrays (among ([] ∷
    [] ∷ [] ∷ [])) 1) 0 && (nat_eq (wanted_reads local_arrays (among ([] ∷ [] ∷ [] ∷ [])) 2) 0 && true))) ≡ true
local_arrays_reads = refl

local_arrays_tests : (nat_eq (open_tests local_arrays (among ([] ∷ [] ∷ [] ∷ [])) 0) 0 && (nat_eq (open_tests local_arrays (among ([] ∷ []
    ∷ [] ∷ [])) 1) 2 && (nat_eq (open_tests local_arrays (among ([] ∷ [] ∷ [] ∷ [])) 2) 0 && true))) ≡ true
local_arrays_tests = refl

-- #include <stdio.h>
-- struct p{char c;short s[2];struct{int a;char*t;}q;};struct p g={1,{2},{3,"xy"}};int main(void){struct p l={9,{8,7},{6,"z"}};struct p m[2]={{1},{2,{3,4}}};printf("%d%d%d%d%s ",g.c,g.s[0],g.s[1],g.q.a,g.q.t);printf("%d%d%d%d%s ",l.c,l.s[0],l.s[1],l.q.a,l.q.t);printf("%d%d%d%d",m[0].c,m[0].q.a,m[1].s[1],m[1].c);return 0;}
abbrev nested_initialisers : Program
nested_initialisers = record { limit = 100; function = function } where
  addresses : ℕ → ℕ
  addresses k = slice_index (16 ∷ 32 ∷ 35 ∷ 37 ∷ 49 ∷ 61 ∷ []) k

  f0 : Function
  f0 = record {
    address = addresses;
    callee = λ g. g;
    parameters = [];
    frame = 48;
    body = (tree.Initialise here 0 16 (record { offset = 0; width = width.B1; value = (tree.Number 9) } ∷ record {
      offset =
          2;
      width = width.B2;
      value = (tree.Number 8);
    } ∷ record { offset = 4; width = width.B2; value = (tree.Number 7) }
        ∷ record { offset = 8; width = width.B4; value = (tree.Number 6) } ∷ record {
          offset = 12;
          width = width.B4;
          value
              = (tree.Address 2 0);
        } ∷ []) (tree.Initialise here 16 32 (record {
          offset = 16;
          width = width.B1;
          value =
              (tree.Number 1);
        } ∷ record { offset = 32; width = width.B1; value = (tree.Number 2) } ∷ record {
          offset = 34;
          width = width.B2;
          value = (tree.Number 3);
        } ∷ record { offset = 36; width = width.B2; value = (tree.Number 4) } ∷
        []) (tree.Print here (tree.expression_then (tree.Read here kind.U8 false (tree.Address 0 0)) (tree.expression_then
        (tree.Read here kind.I16 true (tree.Address 0 2)) (tree.expression_then (tree.Read here kind.I16 true
        (tree.Address 0 4)) (tree.expression_then (tree.Read here kind.I32 false (tree.Address 0 8)) (tree.expression_then
        (tree.Read here kind.I32 false (tree.Address 0 12)) tree.no_expressions))))) (piece.Word spell.Signed 0 ∷
        piece.Word spell.Signed 1 ∷ piece.Word spell.Signed 2 ∷ piece.Word spell.Signed 3 ∷ piece.String 4 ∷ piece.Byte 32
        ∷ []) (tree.Print here (tree.expression_then (tree.Read here kind.U8 false (tree.Frame here 0))
        (tree.expression_then (tree.Read here kind.I16 true (tree.Frame here 2)) (tree.expression_then (tree.Read here
        kind.I16 true (tree.Frame here 4)) (tree.expression_then (tree.Read here kind.I32 false (tree.Frame here 8))
        (tree.expression_then (tree.Read here kind.I32 false (tree.Frame here 12)) tree.no_expressions))))) (piece.Word
        spell.Signed 0 ∷ piece.Word spell.Signed 1 ∷ piece.Word spell.Signed 2 ∷ piece.Word spell.Signed 3 ∷ piece.String
        4 ∷ piece.Byte 32 ∷ []) (tree.Print here (tree.expression_then (tree.Read here kind.U8 true (tree.Frame here 16))
        (tree.expression_then (tree.Read here kind.I32 true (tree.Frame here 24)) (tree.expression_then (tree.Read here
        kind.I16 true (tree.Frame here 36)) (tree.expression_then (tree.Read here kind.U8 true (tree.Frame here 32))
        tree.no_expressions)))) (piece.Word spell.Signed 0 ∷ piece.Word spell.Signed 1 ∷ piece.Word spell.Signed 2 ∷
        piece.Word spell.Signed 3 ∷ []) (tree.Evaluate here (tree.Exit here (tree.Number 0)) tree.Done))))));
  }

  function : ℕ → Function
  function f = f0

nested_initialisers_lawful : (is_lawful_body 320 1 (slice_get (0 ∷ [])) false (let p = nested_initialisers in p.function 0) && true) ≡ true
nested_initialisers_lawful = refl

abbrev nested_initialisers_data : List ℕ
nested_initialisers_data = (1 ∷ 0 ∷ 2 ∷ 0 ∷ 0 ∷ 0 ∷ 0 ∷ 0 ∷ 3 ∷ 0 ∷ 0 ∷ 0 ∷ 32 ∷ 0 ∷ 0 ∷ 0 ∷ 120 ∷ 121 ∷ 0 ∷ 122 ∷ 0 ∷ 37 ∷ 100 ∷ 37 ∷ 100 ∷ 37 ∷
    100 ∷ 37 ∷ 100 ∷ 37 ∷ 115 ∷ 32 ∷ 0 ∷ 37 ∷ 100 ∷ 37 ∷ 100 ∷ 37 ∷ 100 ∷ 37 ∷ 100 ∷ 37 ∷ 115 ∷ 32 ∷ 0 ∷ 37 ∷ 100 ∷ 37 ∷
    100 ∷ 37 ∷ 100 ∷ 37 ∷ 100 ∷ 0 ∷ [])

nested_initialisers_runs :
    seen 93 (run nested_initialisers 100000 0 (start 320 72 nested_initialisers_data)) ≡
    record {
      end = Halted 0;
      printed = ((((((((((((((((([] ++ spelled spell.Signed 1) ++ spelled spell.Signed 2) ++
          spelled spell.Signed 0) ++ spelled spell.Signed 3) ++ spelled spell.Byte 120) ++ spelled spell.Byte 121) ++ (32 ∷ []))
          ++ spelled spell.Signed 9) ++ spelled spell.Signed 8) ++ spelled spell.Signed 7) ++ spelled spell.Signed 6) ++ spelled
          spell.Byte 122) ++ (32 ∷ [])) ++ spelled spell.Signed 1) ++ spelled spell.Signed 0) ++ spelled spell.Signed 4) ++
          spelled spell.Signed 2);
      reads = 19;
      writes = 57;
      bytes = (1 ∷ 0 ∷ 2 ∷ 0 ∷ 0 ∷ 0 ∷ 0 ∷ 0 ∷ 3 ∷ 0 ∷ 0 ∷ 0 ∷ 32 ∷ 0 ∷ 0
          ∷ 0 ∷ 120 ∷ 121 ∷ 0 ∷ 122 ∷ 0 ∷ 37 ∷ 100 ∷ 37 ∷ 100 ∷ 37 ∷ 100 ∷ 37 ∷ 100 ∷ 37 ∷ 115 ∷ 32 ∷ 0 ∷ 37 ∷ 100 ∷ 37 ∷ 100 ∷
          37 ∷ 100 ∷ 37 ∷ 100 ∷ 37 ∷ 115 ∷ 32 ∷ 0 ∷ 37 ∷ 100 ∷ 37 ∷ 100 ∷ 37 ∷ 100 ∷ 37 ∷ 100 ∷ 0 ∷ 0 ∷ 0 ∷ 9 ∷ 0 ∷ 8 ∷ 0 ∷ 7 ∷
          0 ∷ 0 ∷ 0 ∷ 6 ∷ 0 ∷ 0 ∷ 0 ∷ 35 ∷ 0 ∷ 0 ∷ 0 ∷ 1 ∷ 0 ∷ 0 ∷ 0 ∷ 0 ∷ 0 ∷ 0 ∷ 0 ∷ 0 ∷ 0 ∷ 0 ∷ 0 ∷ 0 ∷ 0 ∷ 0 ∷ 0 ∷ 2 ∷ 0 ∷ 3
          ∷ 0 ∷ 4 ∷ []);
      rest_is_zero = true;
    }
unfolding compared misplaced combined spelled most_bytes
nested_initialisers_runs = refl

nested_initialisers_reads : (nat_eq (wanted_reads nested_initialisers (among ([] ∷ [])) 0) 2 && true) ≡ true
nested_initialisers_reads = refl

nested_initialisers_tests : (nat_eq (open_tests nested_initialisers (among ([] ∷ [])) 0) 2 && true) ≡ true
nested_initialisers_tests = refl
