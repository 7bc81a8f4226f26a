mod OtherwiseDeclarators
mod OtherwiseDeclarations
mod Structures
mod Inner
mod Counts
mod Below
