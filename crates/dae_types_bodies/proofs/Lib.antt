mod Arms
mod Labels
