use Rattle.std.proofs.Common.{◌≡◌, Some, None, arith}
use Rattle.dae_unit.specs.Meanings.{number_from}
use Rattle.dae_unit.proofs.Kept.{found_number, no_number, number_within}
use Rattle.dae_unit.proofs.numbers.number_of.Goals as goal

pub returns-in-Some-get-clause-number : goal.returns-in-Some-get-clause-number
returns-in-Some-get-clause-number c =
    let a = c.args in
    found_number a.files.now a.index.rows.now a.file a.entity c.in-Some.identity a.index.numbers.now.entries (Some c.in-Some-get.number.now) c.in-Some.ensures c.requires c.in-Some-get.ensures.value

pub returns-in-Some-get-clause-within : goal.returns-in-Some-get-clause-within
returns-in-Some-get-clause-within c =
    let a = c.args in
    let is : c.in-Some-get.number.now ≡ number_from a.files.now 0 a.file a.entity a.index.rows.now =
    found_number a.files.now a.index.rows.now a.file a.entity c.in-Some.identity a.index.numbers.now.entries (Some c.in-Some-get.number.now) c.in-Some.ensures c.requires c.in-Some-get.ensures.value in
    let within = number_within a.files.now 0 a.file a.entity a.index.rows.now in
    omega arith

pub returns-in-None-get-clause-number : goal.returns-in-None-get-clause-number
returns-in-None-get-clause-number c =
    let a = c.args in
    found_number a.files.now a.index.rows.now a.file a.entity c.in-Some.identity a.index.numbers.now.entries None c.in-Some.ensures c.requires c.in-None-get.ensures.value

pub returns-in-None-clause-number : goal.returns-in-None-clause-number
returns-in-None-clause-number c =
    let none = no_number c.args.files.now 0 c.args.file c.args.entity c.in-None.ensures c.args.index.rows.now in
    omega arith
