-- An example of what stands in specs/Runs.
mod RunsExamples
