-- What the proof of the whole part uses.
mod Range
