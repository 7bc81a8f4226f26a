mod Seen
mod ExpressionsExamples
mod ObjectsExamples
mod StatementsExamples
mod CallsExamples
mod PrintingExamples
