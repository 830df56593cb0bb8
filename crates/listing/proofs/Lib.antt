mod Filing
mod Opening
