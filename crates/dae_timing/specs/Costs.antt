-- What steps and loads cost, in ticks.
use Rattle.std.specs.Prelude.{ℕ, ◌/◌, List, Option, Some, None, slice_get, max}
use Rattle.dae_encode.specs.declared.Inst.{Inst}
use Rattle.dae_encode.specs.declared.Inst.TheVariants.{Mul, Mulh, Mulhsu, Mulhu, Div, Divu, Rem, Remu}
use Rattle.dae_encode.specs.Spelling.{decode}
use Rattle.dae_encode.specs.Processor.{Processor}
use Rattle.dae_timing.specs.declared.prices.Price.{Price}
use Rattle.dae_timing.specs.declared.prices.Price.TheVariants.{One, Product, Quotient}
use Rattle.dae_cli_options.specs.declared.options.Costs.{Costs}

-- the four products and the four quotients and remainders of the M extension (RISC-V unprivileged manual), and all others
abbrev pub price_of : Inst → Price
price_of (Mul rd first second) = Product
price_of (Mulh rd first second) = Product
price_of (Mulhsu rd first second) = Product
price_of (Mulhu rd first second) = Product
price_of (Div rd first second) = Quotient
price_of (Divu rd first second) = Quotient
price_of (Rem rd first second) = Quotient
price_of (Remu rd first second) = Quotient
price_of _ = One

abbrev pub price_if : Option Inst → Price
price_if None = One
price_if (Some i) = price_of i

-- the price of a word of code
abbrev pub price_of_word : ℕ → Price
price_of_word w = price_if (decode w)

abbrev pub price_at_word : Option ℕ → Price
price_at_word None = One
price_at_word (Some w) = price_of_word w

-- the price of a processor's next instruction
abbrev pub price_at : List ℕ → Processor → Price
price_at code p = price_at_word (slice_get code (p.counter / 4))

abbrev pub cost_of : Costs → Price → ℕ
cost_of k One = 1
cost_of k Product = k.mul
cost_of k Quotient = k.div

-- the largest of the three costs
abbrev pub largest : Costs → ℕ
largest k = max k.load (max k.mul k.div)
