-- What a drawing under way says.
use Rattle.std.proofs.Common.{◌≡◌, List, map, length, vec_items}
use Rattle.parts.specs.Building.{Building}
use Rattle.parts.specs.Drawn.{Drawn, references}
use Rattle.parts.specs.Text.{Bytes}
use Rattle.parts.specs.declared.drawing.Drawing.{Drawing}

pub building_drawn : (ds : List (List Bytes)) (d : Drawing) → Building ds d → Drawn ds (map (λ w. w.now) (vec_items d.names)) (vec_items d.slots) × (d.lines ≡ length ds) × (d.references ≡ references ds)
building_drawn ds d h = (h.drawn, h.lined, h.referred)
