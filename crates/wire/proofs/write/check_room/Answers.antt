use Rattle.wire.proofs.Room.{room_for_all}
use Rattle.wire.proofs.write.check_room.Goals as goal

pub returns-then-room-ge-LONGEST : goal.returns-then-room-ge-LONGEST
returns-then-room-ge-LONGEST g c = room_for_all g.K.Kind.ops c.args.value.now c.args.room c.args.narrow.now.fits c.if-room-ge-LONGEST.true
