-- The source that a number makes: so many functions that change one array, and a main that calls each once, in order.
use Rattle.std.specs.Prelude.{ℕ, zero, suc, ◌+◌, ◌*◌, ◌%◌, List, [], ◌++◌, codes, decimal}

abbrev pub big_name : List ℕ
big_name = codes "big.c"

-- the function of number k
abbrev pub function_line : ℕ → List ℕ
function_line k =
    codes "static int f" ++ decimal k
    ++ codes "(int x){int i;for(i=0;i<64;i++)a[i]=a[i]+x*" ++ decimal ((7 * k + 3) % 11)
    ++ codes ";return a[" ++ decimal (k % 64) ++ codes "];}\n"

-- its call
abbrev pub call_line : ℕ → List ℕ
call_line k = codes "s=s+f" ++ decimal k ++ codes "(" ++ decimal k ++ codes ");\n"

-- what stands before the functions, before the calls, and behind them
abbrev pub first_lines : List ℕ
first_lines = codes "#include <stdio.h>\nint a[64];\n"

abbrev pub main_line : List ℕ
main_line = codes "int main(void){int s=0;\n"

abbrev pub last_line : List ℕ
last_line = codes "printf(\"%d\\n\",s);return 0;}\n"

-- the lines of the numbers below n, in order
abbrev pub lines_below : (ℕ → List ℕ) → ℕ → List ℕ
lines_below line zero = []
lines_below line (suc n) = lines_below line n ++ line n

-- the source of a number
abbrev pub big_text : ℕ → List ℕ
big_text n =
    first_lines ++ lines_below function_line n ++ main_line ++ lines_below call_line n ++ last_line
