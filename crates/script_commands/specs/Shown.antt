-- How an opening reads.
use Rattle.std.specs.Prelude.{ℕ, List, [], ◌∷◌, ◌++◌, codes, decimal, flat_map, vec_items}
use Rattle.script_commands.specs.declared.command.PoolKind.{PoolKind}
use Rattle.script_commands.specs.declared.command.PoolKind.TheVariants as kind
use Rattle.script_commands.specs.declared.command.Opening.{Opening}

-- a channel behind another
abbrev pub next_text : ℕ → List ℕ
next_text channel = codes "," ++ decimal channel

-- a blank before the first, and a comma before each of the others
abbrev pub channels_text : List ℕ → List ℕ
channels_text [] = []
channels_text (first ∷ more) = codes " " ++ (decimal first ++ flat_map next_text more)

abbrev pub pool_text : PoolKind → List ℕ
pool_text kind.Link = codes "link"
pool_text (kind.Turn channels) = codes "turn" ++ channels_text (vec_items channels)

abbrev pub opening_text : Opening → List ℕ
opening_text opening =
    codes "opened " ++ (pool_text opening.pool ++ (codes " length=" ++ (decimal opening.length ++ (codes " first=" ++ (decimal opening.first
    ++ (codes " exchange-places=" ++ (decimal opening.exchange_places ++ (codes " sip-places=" ++ decimal opening.sip_places))))))))
