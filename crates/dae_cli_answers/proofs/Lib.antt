mod Runs
mod TimedRuns
mod OneFile
mod OneDue
mod RunsOfWords
