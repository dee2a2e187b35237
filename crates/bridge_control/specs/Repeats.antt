-- Attachments that add nothing to what a bridge says of itself.
use Rattle.std.specs.Prelude.{List, [], ◌∷◌, Bool, false, not, ◌&&◌, ◌||◌, ◌==◌, if◌then◌else◌}
use Rattle.spb_types.specs.Service.{sends, receives}
use Rattle.spb_types.specs.declared.service.Attachment.{Attachment}
use Rattle.forwarding.specs.Ports.{is_in}

-- whether something is attached to the service of an attachment, and does nothing there that this doesn't do
abbrev pub adds_nothing : Attachment → Attachment → Bool
adds_nothing a b = (is_in a.isid b && (b.vid.value == a.vid.value))
    && ((sends a.mode || not (sends b.mode)) && (receives a.mode || not (receives b.mode)))

-- whether the second adds nothing to the first
abbrev pub begins_with_repeat : List Attachment → Bool
begins_with_repeat [] = false
begins_with_repeat (a ∷ []) = false
begins_with_repeat (a ∷ b ∷ bs) = adds_nothing a b

-- what is left behind an attachment without those that add nothing to the last one before them that is left
abbrev pub left_behind : Attachment → List Attachment → List Attachment
left_behind a [] = []
left_behind a (b ∷ bs) = if adds_nothing a b then left_behind a bs else b ∷ left_behind b bs

abbrev pub without_repeats : List Attachment → List Attachment
without_repeats [] = []
without_repeats (a ∷ bs) = a ∷ left_behind a bs
