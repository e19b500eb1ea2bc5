-- What the contracts see of a `Fields` and of a `Builder`: an object's members.
use Rattle.serde_json.specs.Data.{Members}
use Rattle.serde_json.specs.View.{members_view}
use Rattle.mt_json.specs.declared.fields.Fields.{Fields}
use Rattle.mt_json.specs.View as read
use Rattle.mt_json.specs.declared.builder.Builder.{Builder}

-- the members of the object looked into
abbrev pub members : Fields → Members
members f = read.members_view f.list.now

-- the pairs put in; the last value of a key stays
abbrev pub pairs : Builder → Members
pairs b = members_view b.map.entries
