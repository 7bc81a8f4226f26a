-- Results, and lists from an index on.
use Rattle.std.specs.Prelude.{Result, Ok, Err, OnOk}

pub on_ok_more : {A B : Type 0} {P Q : Type 0} (r : Result A B) → OnOk r P → (P → Q) → OnOk r Q
on_ok_more (Ok x) h f = f h
on_ok_more (Err e) h f = tt
