-- Which outstanding fetch a source in memory completes.
use Rattle.std.specs.Prelude.{ℕ, ◌+◌, ◌-◌, ◌*◌, ◌/◌, ◌%◌, ◌^◌, Bool, true, false}
use Rattle.vortex_io.specs.declared.order.Arrive.{Arrive}
use Rattle.vortex_io.specs.declared.order.Arrive.TheVariants.{OnPoll, OnWait}
use Rattle.vortex_io.specs.declared.order.Order.{Order}
use Rattle.vortex_io.specs.declared.order.Order.TheVariants.{First, Last, Seeded}

-- the order in which fetches are completed
abbrev pub order_of : Arrive → Order
order_of (OnPoll order) = order
order_of (OnWait order) = order

-- whether a poll completes fetches
abbrev pub is_on_poll : Arrive → Bool
is_on_poll (OnPoll order) = true
is_on_poll (OnWait order) = false

-- the next number of the generator
abbrev pub next_number : ℕ → ℕ
next_number x = (x * 6364136223846793005 + 1442695040888963407) % 2 ^ 64

-- the number at which an order starts
abbrev pub first_number : Order → ℕ
first_number First = 0
first_number Last = 0
first_number (Seeded seed) = seed

-- the number after a pick: the generator steps before it
abbrev pub number_after : Order → ℕ → ℕ
number_after First x = x
number_after Last x = x
number_after (Seeded seed) x = next_number x

-- the place that is picked among so many outstanding fetches, the oldest of which stands at place 0
abbrev pub picked_place : Order → ℕ → ℕ → ℕ
picked_place First x count = 0
picked_place Last x count = count - 1
picked_place (Seeded seed) x count = (next_number x / 2 ^ 33) % count
