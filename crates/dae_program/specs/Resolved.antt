-- Functions in memory as plain data, with what the numbers of their files mean.
use Rattle.std.specs.Prelude.{ℕ, List, [], slice_get, slice_index, Option, Some, None}
use Rattle.dae_program.specs.declared.program.Function.{Function}
use Rattle.dae_program.specs.declared.program.Links.{Links}
use Rattle.dae_program.specs.Trees as tree
use Rattle.dae_program.specs.Views.{view_statements}

abbrev pub address_in : Option Links → ℕ → ℕ
address_in None object = 0
address_in (Some links) object = slice_index links.addresses object

abbrev pub number_or : ℕ → Option ℕ → ℕ
number_or other None = other
number_or other (Some k) = k

-- the program's number of a function of a file, or that of none
abbrev pub callee_in : ℕ → Option Links → ℕ → ℕ
callee_in none None f = none
callee_in none (Some links) f = number_or none (slice_get links.functions f)

abbrev pub function_in : ℕ → List Links → Option Function → tree.Function
function_in none links None = record {
  address = λ object. 0;
  callee = λ f. none;
  parameters = [];
  frame = 0;
  body = tree.Done;
}
function_in none links (Some f) = record {
  address = address_in (slice_get links f.file);
  callee = callee_in none (slice_get links f.file);
  parameters = f.parameters;
  frame = f.frame;
  body = view_statements f.body;
}

-- how many variables a function has
abbrev pub variables_in : Option Function → ℕ
variables_in None = 1
variables_in (Some f) = f.variables
