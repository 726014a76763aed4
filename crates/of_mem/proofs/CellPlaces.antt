-- A write set over others.
use Rattle.std.proofs.Common.{◌≡◌, ℕ, ◌+◌, ◌<◌, List, [], ◌∷◌, ◌++◌, length, get_or, take, refl, ◌∙◌, ap}
use Rattle.of_mem.specs.CellMap.{put_pair, put_all}
use Rattle.std.proofs.lemmas.List.{take_more}

pub put_all_more : (es ds : List (ℕ × ℕ)) (d : ℕ × ℕ) → put_all es (ds ++ d ∷ []) ≡ put_pair (put_all es ds) d.0 d.1
put_all_more es [] d = refl
put_all_more es (x ∷ ds) d = put_all_more (put_pair es x.0 x.1) ds d

-- a write set over others, by the first entries of a list
pub put_all_take : (es ds : List (ℕ × ℕ)) (i : ℕ) (d : ℕ × ℕ) → i < length ds → put_all es (take (i + 1) ds) ≡ put_pair (put_all es (take i ds)) (get_or ds i d).0 (get_or ds i d).1
put_all_take es ds i d l = ap (put_all es) (take_more ds i d l) ∙ put_all_more es (take i ds) (get_or ds i d)
