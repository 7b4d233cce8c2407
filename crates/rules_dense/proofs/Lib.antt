mod FreePlaces
mod FreeHad
mod GatherLaws
mod RoomLaws
mod DenseLaws
