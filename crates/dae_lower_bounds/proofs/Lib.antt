mod Marked
mod MarkedExpressions
mod MarkedStatements
mod Bounded
