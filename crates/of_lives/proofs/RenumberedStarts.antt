-- Tickets are numbers of data cells, so images with the same numbers have the same ones.
use Rattle.std.proofs.Common.{◌≡◌, ◌∙◌, ℕ, ◌<◌, List, get_or, map, sym, ap, arith}
use Rattle.std.specs.List.{range_with_len}
use Rattle.std.proofs.lemmas.List.{ext_get_or}
use Rattle.std.proofs.lemmas.List.FromFn.{get_or-map-range_with_len, length-map-range_with_len}
use Rattle.of_mem.specs.Places.{ticket_cell_at}
use Rattle.of_script.specs.declared.instr.TheConstants.{MOST_INSTRS}
use Rattle.of_report.specs.Image.{Image, IsImage, image_ticket}
use Rattle.of_lives.specs.RenumberedStarts.{IsRenumberedImage, RenumberedImagesStart}
use Rattle.of_lives.proofs.ImageStarts.{number_there}

ticket_same : (i j : Image) → IsImage MOST_INSTRS i → IsImage MOST_INSTRS j → IsRenumberedImage i j → (c : ℕ) → c < i.row.callers → c < j.row.callers → image_ticket j c ≡ image_ticket i c
ticket_same i j is_i is_j same c in_i in_j =
    sym (number_there j.row is_j.row.size (ticket_cell_at MOST_INSTRS c) (omega (arith, in_j)))
    ∙ ap (λ (xs : List ℕ). get_or xs (ticket_cell_at MOST_INSTRS c) 0) same.numbers
    ∙ number_there i.row is_i.row.size (ticket_cell_at MOST_INSTRS c) (omega (arith, in_i))

tickets_same : (i j : Image) → IsImage MOST_INSTRS i → IsImage MOST_INSTRS j → IsRenumberedImage i j → map (image_ticket j) (range_with_len 0 j.row.callers) ≡ map (image_ticket i) (range_with_len 0 i.row.callers)
tickets_same i j is_i is_j same =
    ext_get_or 0 (map (image_ticket j) (range_with_len 0 j.row.callers)) (map (image_ticket i) (range_with_len 0 i.row.callers))
    (length-map-range_with_len (image_ticket j) 0 j.row.callers ∙ same.callers ∙ sym (length-map-range_with_len (image_ticket i) 0 i.row.callers))
    (λ c lt.
    let in_j : c < j.row.callers = omega (arith, lt, length-map-range_with_len (image_ticket j) 0 j.row.callers) in
    let in_i : c < i.row.callers = omega (arith, in_j, same.callers) in
    get_or-map-range_with_len (image_ticket j) 0 j.row.callers c c 0 in_j (omega arith)
    ∙ ticket_same i j is_i is_j same c in_i in_j
    ∙ sym (get_or-map-range_with_len (image_ticket i) 0 i.row.callers c c 0 in_i (omega arith)))

pub images_start : RenumberedImagesStart
images_start i j is_i is_j same = λ k. record {
  store = same.store k;
  seq = same.seq k;
  finished = tickets_same i j is_i is_j same k;
}
