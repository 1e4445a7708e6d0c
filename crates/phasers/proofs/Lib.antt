mod Again
mod EachGroup
