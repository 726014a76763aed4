-- Which cells the calls on keys in their order read and write, and in which order.
use Rattle.std.specs.Prelude.{ℕ, zero, suc, ◌+◌, ◌-◌, Bool, true, false, nat_lt, Option, None}
use Rattle.of_mem.specs.declared.plot.Plot.{Plot}
use Rattle.of_mem.specs.Plots.{base}
use Rattle.of_mem.specs.Places.{bucket_count, bucket_at, keys_at}
use Rattle.of_mem.specs.Stores.{first_at, link_at}
use Rattle.of_mem.specs.Programs.{Program, Done, Read, Write, then_do}
use Rattle.of_alloc.specs.BlockPrograms.{give_program}
use Rattle.of_mem.specs.Walks.{better_of}

-- Finding the least key that is at least `low`: it reads the front of each bucket, and of each
-- block the key and the link.

abbrev pub weigh_link : ℕ → (ℕ → Option ℕ → Program (Option ℕ)) → Option ℕ → ℕ → ℕ
    → Program (Option ℕ)
weigh_link low further best k link = further link (better_of low k best)

abbrev pub weigh_key : ℕ → ℕ → (ℕ → Option ℕ → Program (Option ℕ)) → ℕ → Option ℕ → ℕ
    → Program (Option ℕ)
weigh_key o low further b best k = Read (link_at o b) (weigh_link low further best k)

-- the walk goes on with a pointer: if the pointer is 0, the bucket ends, with the best key so far;
-- otherwise the walk reads the key of the block
abbrev pub at_pointer : ℕ → ℕ → (ℕ → Option ℕ → Program (Option ℕ)) → Option ℕ → ℕ
    → Program (Option ℕ)
at_pointer o low further best zero = Done best
at_pointer o low further best (suc b) = Read (first_at o b) (weigh_key o low further b best)

-- The walk from this pointer on. It passes at most as many blocks as the third argument says, and
-- answers the best key.
abbrev pub least_walk : ℕ → ℕ → ℕ → ℕ → Option ℕ → Program (Option ℕ)
least_walk o low zero pointer best = Done best
least_walk o low (suc n) pointer best = at_pointer o low (least_walk o low n) best pointer

abbrev pub from_front : ℕ → ℕ → ℕ → Option ℕ → ℕ → Program (Option ℕ)
from_front o blocks low best front = least_walk o low blocks front best

abbrev pub least_in_program : ℕ → ℕ → ℕ → ℕ → Option ℕ → Program (Option ℕ)
least_in_program o blocks i low best = Read (bucket_at o blocks i) (from_front o blocks low best)

-- The walk through some buckets, from bucket i on; the fourth argument says how many. It answers
-- the best key.
unfoldable pub least_buckets : ℕ → ℕ → ℕ → ℕ → ℕ → Option ℕ → Program (Option ℕ)
least_buckets o blocks low zero i best = Done best
least_buckets o blocks low (suc j) i best =
    then_do (least_in_program o blocks i low best) (least_buckets o blocks low j (i + 1))

abbrev pub least_program : ℕ → ℕ → ℕ → Program (Option ℕ)
least_program o blocks low = least_buckets o blocks low (bucket_count blocks) 0 None

-- Dropping the keys below `low`. The answer is how many were dropped.

abbrev pub after_give : ℕ → (ℕ → ℕ → ℕ → Program ℕ) → ℕ → ℕ → ℕ → Unit {0} → Program ℕ
after_give o further cell link gone u = further cell link (gone + 1)

-- If the flag says that the key of block b is below `low`, the pointer cell gets the link of b, and
-- b is given back. Otherwise the walk goes on at the link of b.
abbrev pub drop_or : ℕ → (ℕ → ℕ → ℕ → Program ℕ) → ℕ → ℕ → ℕ → ℕ → Bool → Program ℕ
drop_or o further cell b gone link true =
    Write cell link (then_do (give_program o b) (after_give o further cell link gone))
drop_or o further cell b gone link false = further (link_at o b) link gone

abbrev pub drop_link : ℕ → ℕ → (ℕ → ℕ → ℕ → Program ℕ) → ℕ → ℕ → ℕ → ℕ → ℕ → Program ℕ
drop_link o low further cell b gone k link = drop_or o further cell b gone link (nat_lt k low)

abbrev pub drop_key : ℕ → ℕ → (ℕ → ℕ → ℕ → Program ℕ) → ℕ → ℕ → ℕ → ℕ → Program ℕ
drop_key o low further cell b gone k = Read (link_at o b) (drop_link o low further cell b gone k)

abbrev pub drop_pointer : ℕ → ℕ → (ℕ → ℕ → ℕ → Program ℕ) → ℕ → ℕ → ℕ → Program ℕ
drop_pointer o low further cell gone zero = Done gone
drop_pointer o low further cell gone (suc b) =
    Read (first_at o b) (drop_key o low further cell b gone)

-- the program that drops keys from this pointer cell on, which holds this pointer; `gone` is how
-- many keys were dropped so far
abbrev pub drop_walk : ℕ → ℕ → ℕ → ℕ → ℕ → ℕ → Program ℕ
drop_walk o low zero cell pointer gone = Done gone
drop_walk o low (suc n) cell pointer gone = drop_pointer o low (drop_walk o low n) cell gone pointer

abbrev pub drop_front : ℕ → ℕ → ℕ → ℕ → ℕ → ℕ → Program ℕ
drop_front o blocks i low gone front = drop_walk o low blocks (bucket_at o blocks i) front gone

abbrev pub drop_in_program : ℕ → ℕ → ℕ → ℕ → ℕ → Program ℕ
drop_in_program o blocks i low gone = Read (bucket_at o blocks i) (drop_front o blocks i low gone)

-- the program that takes `gone`, the number of dropped keys, off the count of keys n, and answers
-- `gone`
abbrev pub less_gone : ℕ → ℕ → ℕ → Program ℕ
less_gone o gone n = Write (keys_at o) (n - gone) (Done gone)

abbrev pub count_gone_program : ℕ → ℕ → Program ℕ
count_gone_program o zero = Done zero
count_gone_program o (suc g) = Read (keys_at o) (less_gone o (suc g))

unfoldable pub drop_buckets : ℕ → ℕ → ℕ → ℕ → ℕ → ℕ → Program ℕ
drop_buckets o blocks low zero i gone = count_gone_program o gone
drop_buckets o blocks low (suc j) i gone =
    then_do (drop_in_program o blocks i low gone) (drop_buckets o blocks low j (i + 1))

abbrev pub drop_program : ℕ → ℕ → ℕ → Program ℕ
drop_program o blocks low = drop_buckets o blocks low (bucket_count blocks) 0 0

-- The programs of the calls, and of their parts, on the cells of a plot.

abbrev pub least : Plot → ℕ → Program (Option ℕ)
least plot low = least_program (base plot) plot.blocks low

abbrev pub first_program : Plot → Program (Option ℕ)
first_program plot = least plot 0

abbrev pub next : Plot → ℕ → Program (Option ℕ)
next plot key = least plot (key + 1)

abbrev pub drop_below : Plot → ℕ → Program ℕ
drop_below plot low = drop_program (base plot) plot.blocks low

abbrev pub drop_in : Plot → ℕ → ℕ → ℕ → Program ℕ
drop_in plot i low gone = drop_in_program (base plot) plot.blocks i low gone

abbrev pub count_gone : Plot → ℕ → Program ℕ
count_gone plot gone = count_gone_program (base plot) gone
